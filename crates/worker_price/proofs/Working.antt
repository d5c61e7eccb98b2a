-- What one more task adds to a worker's tasks.
use Rattle.std.proofs.Common.{◌≡◌, ℕ, ℤ, ◌+◌, ◌-◌, ◌/◌, ◌<◌, ◌≤◌, max, List, [], ◌∷◌, ◌++◌, map, All, sym, ap, ◌∙◌, arith, append_assoc, append-nil, inl, length}
use mathlib.Core.List.{map-append}
use Rattle.std.proofs.lemmas.List.Elements.{All-head, All-tail, All-push, All-append}
use Rattle.std.specs.List.{AllZip}
use Rattle.task_board.specs.declared.sheet.Sheet.{Sheet}
use Rattle.task_board.specs.Sheets.{drew}
use Rattle.plan_core.specs.declared.Price.{Price}
use Rattle.worker_price.specs.declared.found.Found.{Found}
use Rattle.worker_price.specs.Work.{Best, lowering, lowerings, priced, FoundUnder, task_of, HasWorked, HasPriced, HasStoppedPricing, IsSoundFound, AreSoundFor, above}
use Rattle.worker_price.specs.Priced.{groups_of}
use Rattle.cover_core.specs.Cover.{Problem}

zip_push : {A B : Type 0} (R : A → B → Type 0) (xs : List A) (ys : List B) (x : A) (y : B) → AllZip R xs ys → R x y →
    AllZip R (xs ++ x ∷ []) (ys ++ y ∷ [])
zip_push R [] [] x y h r = (r, tt)
zip_push R [] (b ∷ ys) x y h r = absurd h
zip_push R (a ∷ xs) [] x y h r = absurd h
zip_push R (a ∷ xs) (b ∷ ys) x y h r = (h.0, zip_push R xs ys x y h.1 r)

pub lowerings-append : (prices : List Price) (groups : ℕ) (fs : List Found) (f : Found) →
    lowerings prices groups (fs ++ f ∷ []) ≡ lowerings prices groups fs ++ lowering prices (f.task / groups) f.column
lowerings-append prices groups [] f = append-nil (lowering prices (f.task / groups) f.column)
lowerings-append prices groups (x ∷ xs) f =
    ap (λ l. lowering prices (x.task / groups) x.column ++ l) (lowerings-append prices groups xs f)
    ∙ sym (append_assoc (lowering prices (x.task / groups) x.column) (lowerings prices groups xs)
    (lowering prices (f.task / groups) f.column))

-- The invariant of a worker's loop: what its desk has claimed, looked at and lowered is what the tasks found so far say. One more
-- task adds one claim, one look and at most one lowering, each behind those before, so the three lists grow in step.
pub worked_more : (best : Best) (prices : List Price) (groups n : ℕ) (seen : ℤ) (before mid here after : Sheet)
    (fs : List Found) (f : Found)
    → HasWorked best prices groups before mid fs → here ≡ drew mid n → f.task ≡ n → FoundUnder best prices groups f (n / groups, seen)
    → after ≡ priced here (n / groups, seen) (lowering prices (n / groups) f.column) →
    HasWorked best prices groups before after (fs ++ f ∷ [])
worked_more best prices groups n seen before mid here after fs f h claim task found is =
    let look : ℕ × ℤ = (n / groups, seen) in
    let low = lowering prices (n / groups) f.column in
    let e : after ≡ priced (drew mid n) look low = is ∙ ap (λ (v : Sheet). priced v look low) claim in
    record {
      tasks = ap (λ (v : Sheet). v.tasks) e ∙ h.tasks;
      share = ap (λ (v : Sheet). v.share) e ∙ h.share;
      drawn =
          ap (λ (v : Sheet). v.drawn) e
          ∙ (ap (λ l. l ++ n ∷ []) h.drawn
          ∙ (append_assoc before.drawn (map task_of fs) (n ∷ [])
          ∙ ap (λ l. before.drawn ++ l) (ap (λ k. map task_of fs ++ k ∷ []) (sym task) ∙ sym (map-append task_of fs (f ∷ [])))));
      looks = (
        h.looks.0 ++ look ∷ [],
        ap (λ (v : Sheet). v.looks) e ∙ (ap (λ l. l ++ look ∷ []) h.looks.1 ∙ append_assoc before.looks h.looks.0 (look ∷ [])),
        zip_push (FoundUnder best prices groups) fs h.looks.0 f look h.looks.2 found,
      );
      lowered =
          ap (λ (v : Sheet). v.lowered) e
          ∙ (ap (λ l. l ++ low) h.lowered
          ∙ (append_assoc before.lowered (lowerings prices groups fs) low
          ∙ ap (λ l. before.lowered ++ l) (ap (λ k. lowerings prices groups fs ++ lowering prices (k / groups) f.column) (sym task)
          ∙ sym (lowerings-append prices groups fs f))));
    }

above-push : (xs : List ℕ) (n : ℕ) → above (xs ++ n ∷ []) ≡ max (above xs) (n + 1)
above-push [] n = omega arith
above-push (x ∷ xs) n = let r = above-push xs n in omega arith

above_le : (xs : List ℕ) (n : ℕ) → All (λ x. x < n) xs → above xs ≤ n
above_le [] n h = omega arith
above_le (x ∷ xs) n h = let a = All-head (λ y. y < n) x xs h in let r = above_le xs n (All-tail (λ y. y < n) x xs h) in omega arith

-- A claim leaves less to be claimed. Why a worker ends: each number that a desk claims is above all that it has, and below the
-- number of tasks, so less is left above the greatest one. It needs nothing of the other workers.
pub fewer_left : (tasks n : ℕ) (look : ℕ × ℤ) (low : List (ℕ × ℤ)) (mid here after : Sheet) → n < tasks → All (λ x. x < n) mid.drawn →
    here ≡ drew mid n → after ≡ priced here look low → tasks - above after.drawn < tasks - above mid.drawn
fewer_left tasks n look low mid here after lt all claim is =
    let e : after.drawn ≡ mid.drawn ++ n ∷ [] = ap (λ (v : Sheet). v.drawn) is ∙ ap (λ (v : Sheet). v.drawn) claim in
    let a : above after.drawn ≡ max (above mid.drawn) (n + 1) = ap above e ∙ above-push mid.drawn n in
    let b = above_le mid.drawn n all in
    omega arith

-- what was found is sound, with one more
pub sound_push : (p : Problem) (prices : List Price) (found : List Found) (f : Found) → AreSoundFor p prices found →
    IsSoundFound prices (length p.caps) (groups_of p.items) f → AreSoundFor p prices (found ++ f ∷ [])
sound_push p prices found f h one = All-push (IsSoundFound prices (length p.caps) (groups_of p.items)) found f h one

-- and what two workers found
pub sound_append : (p : Problem) (prices : List Price) (found more : List Found) → AreSoundFor p prices found → AreSoundFor p prices more →
    AreSoundFor p prices (found ++ more)
sound_append p prices found more h k = All-append (IsSoundFound prices (length p.caps) (groups_of p.items)) found more h k

-- a desk that did its tasks may stop there
pub stopped_after : (p : Problem) (prices : List Price) (before after : Sheet) (found : List Found) →
    HasPriced p prices before after found → HasStoppedPricing p prices before after
stopped_after p prices before after found h = (found, inl h)
