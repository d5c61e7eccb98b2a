use Rattle.std.proofs.Common.{◌≡◌, ◌∷◌, ◌&&◌, drop}
use Rattle.cover_rest.specs.Rest as spec
use Rattle.cover_rest.proofs.member.may_follow.Given as goal

-- what is left to be seen decides
abbrev pub invariant-loop-item : goal.invariant-loop-item
invariant-loop-item l =
    ((spec.rises (l.last ∷ drop l.item-index l.rest) && spec.all_below l.items (drop l.item-index l.rest))
    && spec.none_below l.heads (drop l.item-index l.rest))
    ≡ ((spec.rises (l.first ∷ l.rest) && spec.all_below l.items l.rest) && spec.none_below l.heads l.rest)
