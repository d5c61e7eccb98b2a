use Rattle.std.proofs.Common.{◌≡◌, ◌<◌, ◌≤◌, ℕ, ℤ, List, Bool, Option, true, length, refl, sym, ap, subst, ◌∙◌, arith, rules, to_z, of_z, w64}
use Rattle.std.proofs.lemmas.Int.{to_z-of_z}
use Rattle.std.specs.Prelude.{FitsSigned, IfOk, slice_get}
use Rattle.plan_core.specs.declared.types.Piece.{Piece}
use Rattle.plan_core.specs.declared.types.Price.{Price}
use Rattle.cover_core.specs.declared.Column.{Column}
use Rattle.cover_core.specs.Best.{best_of, within}
use Rattle.cover_core.specs.FirstLeast.{AllWithin}
use Rattle.cover_rest.specs.declared.begun.Begun.{Begun}
use Rattle.cover_rest.specs.Laws.{StandForAll}
use Rattle.cover_rest.specs.Rest.{bodies, body_at, free_lists, rest_of}
use Rattle.cover_rest.proofs.Kept.{many-bodies}
use Rattle.duty_network.specs.Duties.{DutyFacts, duties}
use Rattle.rest_labels.specs.Labels.{is_set, may_follow, may_start, more_after}
use Rattle.rest_labels.specs.Prices.{AreAlike}
use Rattle.duty_rest.specs.Rest.{begun_of, may_begin, rests}
use Rattle.duty_rest.proofs.pricing.best_list.Goals as goal

pub starting_items-requires : goal.starting_items-requires
starting_items-requires c =
    let rest = c.args.rest.now in
    let begun : List Begun = c.args.begun.now in
    let n : ℕ = length rest.net.pieces in
    let P : List Begun → Type 0 = λ hs. length begun ≤ length (bodies hs n) in
    let many : length begun ≤ length (bodies begun n) = many-bodies begun (free_lists begun n 0) in
    let stand : length c.args.bodies.now ≡ length (bodies (begun_of rest.heads) n) = ap length c.requires.made.stand in
    let here = subst P c.requires.made.same many in
    let free = c.in_ok-free.ensures.each in
    let slice : length c.as_slice.result.now ≡ length c.in_ok-free.free.items = ap length c.as_slice.ensures.value in
    omega (arith, stand, here, free, slice)

pub best_marked-requires-clause-moderate : goal.best_marked-requires-clause-moderate
best_marked-requires-clause-moderate c =
    let P : List Price → Type 0 = AllWithin 10000000000000 in
    subst P (sym c.as_slice-4.ensures.value) (c.in_ok-spread.ensures.within 10000000000000 c.requires.moderate)

pub returns-clause-best : goal.returns-clause-best
returns-clause-best c =
    let net : DutyFacts = c.args.net.now in
    let rest = c.args.rest.now in
    let bs : List (List ℕ) = c.args.bodies.now in
    let begun : List Begun = c.args.begun.now in
    let class : ℕ = c.args.class in
    let made = c.requires.made in
    let heads : List Begun = begun_of rest.heads in
    let rest_is : rests rest ≡ rest_of (duties net) heads may_begin = ap (λ d. rest_of (duties d) heads may_begin) (sym c.requires.net) in
    let stand : bs ≡ bodies heads (length net.pieces) =
    made.stand ∙ ap (λ (d : DutyFacts). bodies heads (length d.pieces)) (sym c.requires.net) in
    let A : DutyFacts → Type 0 = λ d. StandForAll (length d.pieces) bs in
    let all : StandForAll (length net.pieces) bs = subst A (sym c.requires.net) made.all in
    let T : List Piece → Type 0 = λ ps. StandForAll (length ps) bs in
    let each : length c.as_slice.result.now ≡ length bs = ap length c.as_slice.ensures.value ∙ c.in_ok-free.ensures.each in
    let S : List Bool → Type 0 = λ marks. (x : ℕ) → x < length bs → is_set marks x ≡ true in
    let marked : S c.as_slice.result.now = subst S (sym c.as_slice.ensures.value) c.in_ok-free.ensures.set in
    let H : List Begun → List Bool → Type 0 =
    λ hs marks. (x : ℕ) → x < length bs → is_set marks x ≡ may_start may_begin class (slice_get hs x) (body_at bs x) in
    let H1 : List Begun → Type 0 = λ hs. H hs c.in_ok-starts.starts.items in
    let H2 : List Bool → Type 0 = H heads in
    let begins : H begun c.in_ok-starts.starts.items =
    λ x inside. c.in_ok-starts.ensures.starts bs may_begin x (omega (arith, inside, each)) (marked x inside) in
    let starts : H heads c.as_slice-2.result.now = subst H2 (sym c.as_slice-2.ensures.value) (subst H1 made.same begins) in
    let E : List Begun → List Bool → Type 0 = λ hs marks. (x : ℕ) → more_after marks x ≡ may_follow (slice_get hs x) in
    let E1 : List Begun → Type 0 = λ hs. E hs c.in_ok-ended.ended.items in
    let E2 : List Bool → Type 0 = E heads in
    let ended : E heads c.as_slice-3.result.now =
    subst E2 (sym c.as_slice-3.ensures.value) (subst E1 made.same c.in_ok-ended.ensures.ended) in
    let count : length c.as_slice-3.result.now ≡ length heads =
    ap length c.as_slice-3.ensures.value ∙ c.in_ok-ended.ensures.each ∙ ap length made.same in
    let stands : StandForAll (length c.pieces.result.now) bs = subst T (sym c.pieces.ensures.pieces) all in
    let L : List Price → Type 0 = AreAlike bs c.args.prices.now in
    let alike : AreAlike bs c.args.prices.now c.as_slice-4.result.now =
    subst L (sym c.as_slice-4.ensures.value) (c.in_ok-spread.ensures.alike stands) in
    let fits : FitsSigned w64 c.args.limit = search rules in
    let limit : to_z w64 (of_z w64 c.args.limit) ≡ c.args.limit = to_z-of_z w64 c.args.limit fits in
    let W : ℤ → Type 0 = λ z. IfOk c.best_marked.result
    (λ (answer : Option Column). answer ≡ within z c.args.prices.now (best_of (rests rest) c.args.prices.now class c.args.group)) in
    subst W limit (c.best_marked.ensures.best heads may_begin c.args.prices.now rest_is stand
    (record { starts_is = starts; ended_is = λ x inside. ended x; each = count })
    (record { some = all.some; first = λ x more inside. refl; alike = alike }))
