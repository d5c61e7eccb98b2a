-- Findings added one after another.
use Rattle.std.proofs.Common.{◌≡◌, ℕ, suc, ◌+◌, ◌<◌, All, Bool, true, false, List, [], ◌∷◌, ◌++◌, length, map, refl, sym, ap, ◌∙◌, append_assoc, add-one, get_or, take, drop, drop-cons}
use Rattle.std.proofs.Math.Seq.{take-suc}
use Rattle.std.proofs.lemmas.List.{append-nil, map-append}
use Rattle.std.proofs.lemmas.List.Elements.{All-append, All-cons, All-nil}
use Rattle.week_check.specs.declared.denial.Denial.{Denial}
use Rattle.week_check.specs.Denials.{Adds, Finding, HasDays, finding_of, when}

-- what is added by now and what is left to add are the whole
pub record Leads (old new : List Denial) (left whole : List Finding) : Type 0 where
  pub findings : map finding_of new ++ left ≡ map finding_of old ++ whole
  pub days : All HasDays old → All HasDays new

pub leads_start : (old : List Denial) (whole : List Finding) → Leads old old whole whole
leads_start old whole = record { findings = refl; days = λ all. all }

pub leads_step : (old mid new : List Denial) (found left next whole : List Finding) → next ≡ found ++ left → Leads old mid next whole →
    Adds mid new found → Leads old new left whole
leads_step old mid new found left next whole e so_far here = record {
  findings = ap (λ z. z ++ left) here.findings ∙ append_assoc (map finding_of mid) found left
      ∙ ap (λ z. map finding_of mid ++ z) (sym e) ∙ so_far.findings;
  days = λ all. here.days (so_far.days all);
}

pub leads_end : (old new : List Denial) (left whole : List Finding) → left ≡ [] → Leads old new left whole → Adds old new whole
leads_end old new left whole e done = record {
  findings = sym (append-nil (map finding_of new)) ∙ ap (λ z. map finding_of new ++ z) (sym e) ∙ done.findings;
  days = done.days;
}

pub adds_none : (xs : List Denial) → Adds xs xs []
adds_none xs = record { findings = sym (append-nil (map finding_of xs)); days = λ all. all }

pub adds_then : (a b c : List Denial) (x y : List Finding) → Adds a b x → Adds b c y → Adds a c (x ++ y)
adds_then a b c x y first second = record {
  findings = second.findings ∙ ap (λ z. z ++ y) first.findings ∙ append_assoc (map finding_of a) x y;
  days = λ all. second.days (first.days all);
}

one_more : (xs : List Denial) (d : Denial) → HasDays d → All HasDays xs → All HasDays (xs ++ d ∷ [])
one_more xs d has all = All-append HasDays xs (d ∷ []) all (All-cons HasDays d [] has (All-nil HasDays))

pub adds_one : (xs ys : List Denial) (d : Denial) (b : Bool) → b ≡ true → ys ≡ xs ++ d ∷ [] → HasDays d → Adds xs ys (when b (finding_of d))
adds_one xs ys d b is e has = rw (is, e) (record {
  findings = map-append finding_of xs (d ∷ []);
  days = one_more xs d has;
})

pub adds_not : (xs : List Denial) (d : Denial) (b : Bool) → b ≡ false → Adds xs xs (when b (finding_of d))
adds_not xs d b is = rw is (adds_none xs)

-- one item more of a list
pub rest_at : {A : Type 0} (xs : List A) (i : ℕ) (x : A) → i < length xs → x ≡ get_or xs i x → drop i xs ≡ x ∷ drop (i + 1) xs
rest_at xs i x within is = rw add-one (drop-cons xs i x within ∙ ap (λ y. y ∷ drop (suc i) xs) (sym is))

pub front_at : {A : Type 0} (xs : List A) (i : ℕ) (x : A) → i < length xs → x ≡ get_or xs i x → take (i + 1) xs ≡ take i xs ++ x ∷ []
front_at xs i x within is = rw add-one (take-suc xs i x within ∙ ap (λ y. take i xs ++ y ∷ []) (sym is))

pub at_place : {A : Type 0} (xs : List A) (i : ℕ) (d e : A) → i < length xs → get_or xs i d ≡ get_or xs i e
at_place xs i d e within =
    let one : drop i xs ≡ get_or xs i d ∷ drop (suc i) xs = drop-cons xs i d within in
    let two : drop i xs ≡ get_or xs i e ∷ drop (suc i) xs = drop-cons xs i e within in
    cc

pub adds_same : (a b : List Denial) (x y : List Finding) → x ≡ y → Adds a b x → Adds a b y
adds_same a b x y e here = record { findings = here.findings ∙ ap (λ z. map finding_of a ++ z) e; days = here.days }
