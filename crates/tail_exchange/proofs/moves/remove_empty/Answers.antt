use Rattle.std.proofs.Common.{ap, ◌∙◌, rules}
use Rattle.std.proofs.lemmas.Fn.{filter_same}
use Rattle.cover_core.specs.declared.Column.{Column}
use Rattle.tail_exchange.specs.Exchange.{has_any, without_empty}
use Rattle.tail_exchange.proofs.moves.remove_empty.Goals as goal

pub returns : goal.returns
returns c =
    let kept = filter_same _ (λ (d : Column). has_any d.items) _ (λ x b f q. search rules) _ _ c.retain.ensures.filtered in
    c.from_vec.ensures ∙ kept ∙ ap without_empty (c.into_vec-list.ensures ∙ c.replace.ensures.value)
