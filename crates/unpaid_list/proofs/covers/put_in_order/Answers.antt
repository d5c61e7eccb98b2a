use Rattle.std.proofs.Common.{◌≡◌, ◌∙◌}
use Rattle.std.proofs.lemmas.List.Filters.{dedup_is}
use Rattle.std.proofs.lemmas.List.Kept.{Contains-dedup, Contains-from_dedup, IsStrictlySortedBy-dedup}
use Rattle.std.proofs.lemmas.List.Sorted.{Contains-permutation, IsPermutation-sym}
use Rattle.std.specs.List.{dedup}
use Rattle.unpaid_list.proofs.Risen.{exact-by-order}
use Rattle.unpaid_list.proofs.covers.put_in_order.Goals as goal

-- Marks are sorted, and of neighbours that count as equal one is kept; so each mark that is left is below the next. The order tells
-- marks apart, so what counts as equal is the same mark, and no mark is lost by this (`returns-clause-keeps`).
pub returns-clause-rising : goal.returns-clause-rising
returns-clause-rising g c =
    let E = g.T.PartialEq.eq in
    let old = c.sort_unstable.new.self.items in
    let is : c.from_vec.result ≡ dedup E old = c.from_vec.ensures ∙ dedup_is E old c.dedup.new.self.items c.dedup.ensures.filtered in
    rw is (IsStrictlySortedBy-dedup g.met.T.Ord.total g.met.T.Ord.matches_eq old c.sort_unstable.ensures.sorted)

pub returns-clause-keeps : goal.returns-clause-keeps
returns-clause-keeps g c = λ a h.
    let E = g.T.PartialEq.eq in
    let first = c.into_vec-items.result.items in
    let old = c.sort_unstable.new.self.items in
    let is : c.from_vec.result ≡ dedup E old = c.from_vec.ensures ∙ dedup_is E old c.dedup.new.self.items c.dedup.ensures.filtered in
    let inside = Contains-permutation first old a c.sort_unstable.ensures.permutation (rw c.into_vec-items.ensures h) in
    rw is (Contains-dedup g.met.T.Eq.laws (exact-by-order g.T.Ord.cmp E g.met.T.Ord.matches_eq c.requires) old a inside)

pub returns-clause-adds_none : goal.returns-clause-adds_none
returns-clause-adds_none g c = λ a h.
    let E = g.T.PartialEq.eq in
    let first = c.into_vec-items.result.items in
    let old = c.sort_unstable.new.self.items in
    let is : c.from_vec.result ≡ dedup E old = c.from_vec.ensures ∙ dedup_is E old c.dedup.new.self.items c.dedup.ensures.filtered in
    let inside = Contains-from_dedup E old a (rw is at h) in
    rw c.into_vec-items.ensures at (Contains-permutation old first a
    (IsPermutation-sym first old c.sort_unstable.ensures.permutation) inside)
