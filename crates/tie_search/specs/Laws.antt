-- Promise: the laws of labels stay where the items from an end on are left out, since a step over an item before the end is the same.
use Rattle.std.proofs.Common.{ℕ, ℤ, ◌<◌, Bool, cond, nat_lt, ap, ◌∙◌, arith}
use Rattle.std.specs.Prelude.{Option, None}
use Rattle.std.proofs.lemmas.Bool.Decides.{nat_tests}
use Rattle.cover_core.specs.Labels.{Labelling, IsKept, IsValued}
use Rattle.label_search.specs.Laws.{IsStepwise, IsSafe, HidesNone}
use Rattle.label_search.proofs.Pricing.{start-parts}
use Rattle.tie_search.specs.Before.{before}

module _ {L : Type 0} (w : Labelling L) (end : ℕ) where
  pub before-kept : (good : L → L → Type 0) → IsKept w good → IsKept (before w end) good
  before-kept good k = record {
    same = k.same;
    through = k.through;
    extended = λ a b b' item h e.
        let (test, made) = start-parts (nat_lt item end) (w.extend b item) b' e in
        let (a', is, better) = k.extended a b b' item h made in
        (a', ap (λ t. cond t (w.extend a item) None) test ∙ is, better);
  }

  pub before-valued : (good : L → L → Type 0) (value_at : L → ℤ) (close : L → Option ℤ) → IsValued w good value_at close →
      IsValued (before w end) good value_at close
  before-valued good value_at close v = record {
    at_most = v.at_most;
    apart = λ a b a' b' item h less ea eb.
        v.apart a b a' b' item h less (start-parts (nat_lt item end) (w.extend a item) a' ea).1
        (start-parts (nat_lt item end) (w.extend b item) b' eb).1;
    closes = v.closes;
  }

  pub before-stepwise : (count : ℕ) (last : L → ℕ) → IsStepwise w count last → IsStepwise (before w end) end last
  before-stepwise count last s = record {
    starts = λ item a e.
        let (test, made) = start-parts (nat_lt item end) (w.start item) a e in
        let (there, ends) = s.starts item a made in
        let early : item < end = grind (arith, nat_tests) in
        (early, ends);
    steps = λ a b item e.
        let (test, made) = start-parts (nat_lt item end) (w.extend a item) b e in
        let (up, there, ends) = s.steps a b item made in
        let early : item < end = grind (arith, nat_tests) in
        (up, early, ends);
  }

  pub before-safe : (sound : L → Type 0) → IsSafe w sound → IsSafe (before w end) sound
  before-safe sound s = record {
    starts = λ item a e. let (test, made) = start-parts (nat_lt item end) (w.start item) a e in s.starts item a made;
    steps = λ a b item h e. let (test, made) = start-parts (nat_lt item end) (w.extend a item) b e in s.steps a b item h made;
  }

  pub before-hides : (good : L → L → Bool) (close : L → Option ℤ) (sound : L → Type 0) (may_close : ℤ → L → Bool) →
      HidesNone w good close sound may_close → HidesNone (before w end) good close sound may_close
  before-hides good close sound may_close h = record {
    closes = h.closes;
    steps = λ limit a b item fits e. let (test, made) = start-parts (nat_lt item end) (w.extend a item) b e in
        h.steps limit a b item fits made;
    ordered = h.ordered;
  }
