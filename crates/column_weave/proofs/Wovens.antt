-- Woven columns, one more at a time.
use Rattle.std.proofs.Common.{◌≡◌, ℕ, ℤ, ◌<◌, List, [], ◌∷◌, ◌++◌, length, sym, ap, ◌∙◌, subst}
use Rattle.std.specs.Prelude.{slice_index, neg_ℤ, ◌<ℤ◌}
use Rattle.std.proofs.lemmas.List.Elements.{All-push}
use Rattle.plan_core.specs.declared.Price.{Price}
use Rattle.cover_core.specs.declared.Column.{Column}
use Rattle.cover_core.specs.Cover.{Problem}
use Rattle.cover_core.specs.Plans.{IsColumn, AreColumns, number_at}
use Rattle.cover_core.specs.FirstLeast.{value}
use Rattle.cover_core.specs.Fitting.{AreFit}
use Rattle.column_weave.specs.Woven.{AreWoven, IsGain, IsWoven}

columns-push : (p : Problem) (cs : List Column) (c : Column) → AreColumns p cs → IsColumn p c → AreColumns p (cs ++ c ∷ [])
columns-push p [] c are is = (is, tt)
columns-push p (x ∷ xs) c are is = (are.0, columns-push p xs c are.1 is)

fit-push : (n k : ℕ) (cs : List Column) (c : Column) → AreFit n k cs → AreFit n k (c ∷ []) → AreFit n k (cs ++ c ∷ [])
fit-push n k [] c are one = one
fit-push n k (x ∷ xs) c are one = (are.0, fit-push n k xs c are.1 one)

-- One more woven column. What is woven is valued by the problem itself, and pushed only where its value is below minus what its
-- class asks; links and sums merely proposed the list. So woven columns are columns of the problem and gains, however rough the
-- sums are.
pub woven-push : (p : Problem) (prices : List Price) (free : List ℕ) (asked : List ℤ) (class : ℕ) (z : ℤ)
    (cs new : List Column) (c : Column) →
    0 < slice_index free class → z ≡ number_at asked class → IsWoven p prices class z c → new ≡ cs ++ c ∷ [] →
    AreWoven p prices free asked cs → AreWoven p prices free asked new
woven-push p prices free asked class z cs new c place asks is pushed are =
    let F : ℕ → Type 0 = λ k. 0 < slice_index free k in
    let G : ℤ → Type 0 = λ a. value prices c <ℤ neg_ℤ a in
    let asks_here : z ≡ number_at asked c.class = asks ∙ ap (number_at asked) (sym is.of_class) in
    let gain : IsGain prices free asked c = record { place = subst F (sym is.of_class) place; loss = subst G asks_here is.loss } in
    let W : List Column → Type 0 = λ l. AreWoven p prices free asked l in
    subst W (sym pushed) (record {
      are = columns-push p cs c are.are is.column;
      fit = fit-push p.items (length p.caps) cs c are.fit ((is.rises, is.items, is.cheap, is.column.0), tt);
      gains = All-push (IsGain prices free asked) cs c are.gains gain;
    })
