-- The duties cut where the driver changes are the duties, and each list has one driver's.
use Rattle.std.proofs.Common.{◌≡◌, ℕ, ◌==◌, not, All, arith, Bool, true, false, if◌then◌else◌, List, [], ◌∷◌, ◌++◌, refl, sym, ap, ◌∙◌, append_assoc}
use Rattle.std.specs.List.{flat_map}
use Rattle.std.proofs.lemmas.Grind.{flat_map-append}
use Rattle.std.proofs.lemmas.List.{append-nil}
use Rattle.std.proofs.lemmas.List.Elements.{All-append, All-cons, All-nil}
use Rattle.std.proofs.lemmas.Bool.Decides.{nat_tests}
use Rattle.week_check.specs.declared.turn.Turn.{Turn}
use Rattle.week_check.specs.Denials.{HasOneDriver}
use Rattle.week_check.specs.Duties.{complete, continued, drivers_lists, ended, ends_before, lists_from}

abbrev joined : List (List Turn) → List Turn
joined lists = flat_map (λ (ts : List Turn). ts) lists

joined_complete : (current : List Turn) → joined (complete current) ≡ current
joined_complete [] = refl
joined_complete (t ∷ ts) = append-nil (t ∷ ts)

joined_step : (b : Bool) (current : List Turn) (t : Turn) →
    joined (if b then complete current else []) ++ (if b then t ∷ [] else current ++ t ∷ []) ≡ current ++ t ∷ []
joined_step true current t = ap (λ ts. ts ++ t ∷ []) (joined_complete current)
joined_step false current t = refl

-- The list so far is carried along: the duties of the complete lists and then the duties of the list so far are those gone over. A
-- list that ends is put out whole, and an empty one, before the first duty, leaves no list.
joined_from : (current ts : List Turn) → joined (lists_from current ts) ≡ current ++ ts
joined_from current [] = joined_complete current ∙ sym (append-nil current)
joined_from current (t ∷ ts) =
    flat_map-append (λ (us : List Turn). us) (ended current t) (lists_from (continued current t) ts)
    ∙ ap (λ us. joined (ended current t) ++ us) (joined_from (continued current t) ts)
    ∙ sym (append_assoc (joined (ended current t)) (continued current t) ts)
    ∙ ap (λ us. us ++ ts) (joined_step (ends_before current t) current t)
    ∙ append_assoc current (t ∷ []) ts

-- nothing is lost by the cut
pub lists_are_all : (ordered : List Turn) → flat_map (λ (ts : List Turn). ts) (drivers_lists ordered) ≡ ordered
lists_are_all ordered = joined_from [] ordered

same_driver : (a t : ℕ) → not (a == t) ≡ false → a ≡ t
same_driver a t e = grind (arith, nat_tests)

one_single : (t : Turn) → HasOneDriver (t ∷ [])
one_single t = All-cons (λ (u : Turn). u.driver ≡ t.driver) t [] refl (All-nil (λ (u : Turn). u.driver ≡ t.driver))

one_more : (current : List Turn) (t : Turn) → ends_before current t ≡ false → HasOneDriver current → HasOneDriver (current ++ t ∷ [])
one_more [] t e one = absurd (cc)
one_more (a ∷ others) t e one =
    let same : a.driver ≡ t.driver = same_driver a.driver t.driver e in
    All-append (λ (u : Turn). u.driver ≡ a.driver) (a ∷ others) (t ∷ []) one
    (All-cons (λ (u : Turn). u.driver ≡ a.driver) t [] (sym same) (All-nil (λ (u : Turn). u.driver ≡ a.driver)))

one_continued : (b : Bool) (current : List Turn) (t : Turn) → ends_before current t ≡ b → HasOneDriver current →
    HasOneDriver (if b then t ∷ [] else current ++ t ∷ [])
one_continued true current t e one = one_single t
one_continued false current t e one = one_more current t e one

one_complete : (current : List Turn) → HasOneDriver current → All HasOneDriver (complete current)
one_complete [] one = All-nil HasOneDriver
one_complete (t ∷ ts) one = All-cons HasOneDriver (t ∷ ts) [] one (All-nil HasOneDriver)

one_ended : (b : Bool) (current : List Turn) → HasOneDriver current → All HasOneDriver (if b then complete current else [])
one_ended true current one = one_complete current one
one_ended false current one = All-nil HasOneDriver

-- A duty is put to the list so far only where its driver is that of the list's first duty; else it begins a list of its own. So the
-- list so far is always one driver's, and so is each that is put out.
one_from : (current ts : List Turn) → HasOneDriver current → All HasOneDriver (lists_from current ts)
one_from current [] one = one_complete current one
one_from current (t ∷ ts) one =
    All-append HasOneDriver (ended current t) (lists_from (continued current t) ts) (one_ended (ends_before current t) current one)
    (one_from (continued current t) ts (one_continued (ends_before current t) current t refl one))

-- each list has the duties of one driver
pub lists_of_one : (ordered : List Turn) → All HasOneDriver (drivers_lists ordered)
lists_of_one ordered = one_from [] ordered (All-nil (λ (u : Turn). u.driver ≡ 0))
