use Rattle.std.proofs.Common.{◌&&◌, ap, ◌∙◌}
use Rattle.cover_rest.proofs.Steps.{is-list, tail-is}
use Rattle.cover_rest.proofs.member.is_rest_list.Goals as goal

pub returns-in-len1-up : goal.returns-in-len1-up
returns-in-len1-up c = λ bs may long begins.
    let list = c.args.list.now in
    c.both-in-len1-up.ensures ∙ ap (λ b. b && c.may_follow-follow.result) c.both.ensures
    ∙ is-list c.args.heads.now bs may c.args.class list _ c.args.items c.goes_on-on.result c.may_follow-follow.result
    c.in-len1-up.len_at_least (tail-is list c.in-len1-up.len_at_least) long
    (c.goes_on-on.ensures may _ begins) c.may_follow-follow.ensures
