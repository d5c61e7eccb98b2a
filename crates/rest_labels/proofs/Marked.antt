-- Marks say how lists of a rest begin and go on.
use Rattle.std.proofs.Common.{◌≡◌, ℕ, ◌-◌, ◌<◌, ◌≤◌, Bool, nat_eq, zero, suc, List, [], ◌∷◌, ◌++◌, length, drop, take, take_all, length-drop, slice_get, refl, sym, ap, ◌∙◌, arith}
use Rattle.rest_labels.proofs.Steps.{drop-all}
use Rattle.cover_rest.specs.declared.begun.Begun.{Begun}
use Rattle.rest_labels.specs.Labels.{is_set, may_follow, may_start, more_after}
use Rattle.rest_labels.specs.Marks.{ends, starts_of}

pub ends-length : (hs : List Begun) → length (ends hs) ≡ length hs
ends-length [] = refl
ends-length (h ∷ hs) = ap (λ n. suc n) (ends-length hs)

pub ends-follow : (hs : List Begun) (x : ℕ) → more_after (ends hs) x ≡ may_follow (slice_get hs x)
ends-follow [] x = refl
ends-follow (h ∷ hs) zero = refl
ends-follow (h ∷ hs) (suc x) = ends-follow hs x

-- heads of the class, for each head
abbrev pub of_class : ℕ → List Begun → List Bool
of_class class [] = []
of_class class (h ∷ hs) = nat_eq h.class class ∷ of_class class hs

pub starts-of : (class : ℕ) (hs : List Begun) (free : List Bool) → length hs ≤ length free →
    of_class class hs ++ drop (length hs) free ≡ starts_of class hs free
starts-of class [] free h = refl
starts-of class (g ∷ hs) [] h = absurd (omega arith)
starts-of class (g ∷ hs) (f ∷ fs) h = ap (λ l. nat_eq g.class class ∷ l) (starts-of class hs fs (omega arith))

pub starts-length : (class : ℕ) (hs : List Begun) (free : List Bool) → length (starts_of class hs free) ≡ length free
starts-length class [] free = refl
starts-length class (h ∷ hs) [] = refl
starts-length class (h ∷ hs) (f ∷ fs) = ap (λ n. suc n) (starts-length class hs fs)

pub starts-start : (class : ℕ) (hs : List Begun) (free : List Bool) (may : ℕ → List ℕ → Bool) (body : List ℕ) (x : ℕ) → x < length free →
    is_set free x ≡ may class body →
    is_set (starts_of class hs free) x ≡ may_start may class (slice_get hs x) body
starts-start class [] free may body x there same = same
starts-start class (h ∷ hs) [] may body x there same = absurd (omega arith)
starts-start class (h ∷ hs) (f ∷ fs) may body zero there same = refl
starts-start class (h ∷ hs) (f ∷ fs) may body (suc x) there same = starts-start class hs fs may body x (omega arith) same

nothing-more : (xs : List Bool) → xs ++ [] ≡ xs
nothing-more [] = refl
nothing-more (x ∷ xs) = ap (λ l. x ∷ l) (nothing-more xs)

-- the marks of all heads, and those of the other items behind them
pub all-listed : (class : ℕ) (hs : List Begun) (free got : List Bool) (i : ℕ) → length hs ≤ length free → length hs ≤ i →
    got ++ of_class class (drop i hs) ≡ of_class class hs →
    got ++ take (length free - length hs) (drop (length hs) free) ≡ starts_of class hs free
all-listed class hs free got i fits end same =
    let heads : got ≡ of_class class hs = sym (nothing-more got) ∙ ap (λ l. got ++ of_class class l) (sym (drop-all hs i end)) ∙ same in
    let tail = take_all (length free - length hs) (drop (length hs) free) (omega (arith, length-drop (length hs) free)) in
    ap (λ l. l ++ take (length free - length hs) (drop (length hs) free)) heads ∙ ap (λ l. of_class class hs ++ l) tail
    ∙ starts-of class hs free fits
