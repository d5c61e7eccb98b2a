-- The first offer of the greatest bound.
use Rattle.std.proofs.Common.{◌≡◌, ℕ, ◌+◌, ◌<◌, ◌≤◌, nat_lt, Bool, true, false, cond, List, [], ◌∷◌, ◌++◌, All, refl, sym, ap, ◌∙◌, subst, arith, append_assoc}
use Rattle.std.proofs.lemmas.Bool.Decides.{nat_tests}
use Rattle.std.proofs.lemmas.List.Elements.{All-nil, All-cons, All-head, All-tail, All-append}
use Rattle.dual_bound.specs.declared.kept.Kept.{Kept}
use Rattle.dual_bound.specs.Offers.{kept_after}
use Rattle.price_rounds.specs.Rounds.{IsFirstGreatest}

pub first_alone : (offer : Kept) → IsFirstGreatest (offer ∷ []) offer
first_alone offer = record {
  before = [];
  after = [];
  all = refl;
  less = All-nil (λ (o : Kept). o.bound < offer.bound);
  no_more =
      All-nil (λ (o : Kept). o.bound ≤ offer.bound);
}

-- all bounds below a greater one
raised : (low high : ℕ) (offers : List Kept) → low < high → All (λ (o : Kept). o.bound < low) offers →
    All (λ (o : Kept). o.bound < high) offers
raised low high [] above all = All-nil (λ (o : Kept). o.bound < high)
raised low high (o ∷ os) above all =
    let head : o.bound < low = All-head (λ (o : Kept). o.bound < low) o os all in
    All-cons (λ (o : Kept). o.bound < high) o os (omega arith) (raised low high os above (All-tail (λ (o : Kept). o.bound < low) o os all))

raised_from : (low high : ℕ) (offers : List Kept) → low < high → All (λ (o : Kept). o.bound ≤ low) offers →
    All (λ (o : Kept). o.bound < high) offers
raised_from low high [] above all = All-nil (λ (o : Kept). o.bound < high)
raised_from low high (o ∷ os) above all =
    let head : o.bound ≤ low = All-head (λ (o : Kept). o.bound ≤ low) o os all in
    All-cons (λ (o : Kept). o.bound < high) o os (omega arith)
    (raised_from low high os above (All-tail (λ (o : Kept). o.bound ≤ low) o os all))

-- The same after one more offer. The invariant of all rounds: what is kept is the first offer of the greatest bound so far. A truly
-- greater one has all others below it; any other stays behind the kept one. So one offer is kept, and which one does not depend on
-- how offers are stored.
pub first_next : (offers : List Kept) (old new : Kept) → IsFirstGreatest offers old →
    IsFirstGreatest (offers ++ new ∷ []) (kept_after old new)
first_next offers old new is = go (nat_lt old.bound new.bound) refl
  where
    go : (b : Bool) → nat_lt old.bound new.bound ≡ b → IsFirstGreatest (offers ++ new ∷ []) (cond b new old)
    go true e =
        let above : old.bound < new.bound = grind (arith, nat_tests) in
        let less : All (λ (o : Kept). o.bound < new.bound) (is.before ++ old ∷ is.after) =
        All-append (λ (o : Kept). o.bound < new.bound) is.before (old ∷ is.after) (raised old.bound new.bound is.before above is.less)
        (All-cons (λ (o : Kept). o.bound < new.bound) old is.after above (raised_from old.bound new.bound is.after above is.no_more)) in
        let P : List Kept → Type 0 = λ l. All (λ (o : Kept). o.bound < new.bound) l in
        record {
          before = offers;
          after = [];
          all = refl;
          less = subst P (sym is.all) less;
          no_more =
              All-nil (λ (o : Kept). o.bound ≤ new.bound);
        }
    go false e =
        let below : new.bound ≤ old.bound = grind (arith, nat_tests) in
        record {
          before = is.before;
          after = is.after ++ new ∷ [];
          all = ap (λ (l : List Kept). l ++ new ∷ []) is.all ∙ append_assoc is.before (old ∷ is.after) (new ∷ []);
          less = is.less;
          no_more = All-append (λ (o : Kept). o.bound ≤ old.bound) is.after (new ∷ []) is.no_more
              (All-cons (λ (o : Kept). o.bound ≤ old.bound) new [] below (All-nil (λ (o : Kept). o.bound ≤ old.bound)));
        }
