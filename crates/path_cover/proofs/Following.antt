-- A path that follows a matching, node by node.
use Rattle.std.proofs.Common.{◌≡◌, ◌≢◌, ◌==◌, ℕ, ◌+◌, ◌<◌, Bool, true, false, List, [], ◌∷◌, ◌++◌, add-one, ap, ◌∙◌, refl, arith}
use Rattle.std.proofs.lemmas.Bool.Decides.{nat_tests}
use Rattle.path_cover.specs.Nets.{first_nodes}
use Rattle.path_cover.specs.Walks.{AllFollow, FollowsFrom, starts}

-- a path from a node that has come to another one
abbrev pub ComesTo : ℕ → (ℕ → ℕ) → ℕ → List ℕ → ℕ → Type 0
ComesTo n to s [] last = s ≡ last
ComesTo n to s (u ∷ us) last = (u < n) × (to s ≡ u) × ComesTo n to u us last

pub comes_on : (n : ℕ) (to : ℕ → ℕ) (s : ℕ) (us : List ℕ) (last next : ℕ) → ComesTo n to s us last → to last ≡ next → next < n →
    ComesTo n to s (us ++ next ∷ []) next
comes_on n to s [] last next comes goes within = (within, ap to comes ∙ goes, refl)
comes_on n to s (u ∷ us) last next comes goes within = (comes.0, comes.1, comes_on n to u us last next comes.2 goes within)

pub comes_home : (n : ℕ) (to : ℕ → ℕ) (s : ℕ) (us : List ℕ) (last : ℕ) → ComesTo n to s us last → to last ≡ n → FollowsFrom n to s us
comes_home n to s [] last comes goes = ap to comes ∙ goes
comes_home n to s (u ∷ us) last comes goes = (comes.0, comes.1, comes_home n to u us last comes.2 goes)

-- one path more
pub follow_more : (n : ℕ) (to : ℕ → ℕ) (lists : List (List ℕ)) (t : ℕ) (ts : List ℕ) → AllFollow n to lists → t < n →
    FollowsFrom n to t ts → AllFollow n to (lists ++ (t ∷ ts) ∷ [])
follow_more n to [] t ts follow within more = ((within, more), tt)
follow_more n to (list ∷ lists) t ts follow within more = (follow.0, follow_more n to lists t ts follow.1 within more)

pub firsts_more : (lists : List (List ℕ)) (t : ℕ) (ts : List ℕ) → first_nodes (lists ++ (t ∷ ts) ∷ []) ≡ first_nodes lists ++ t ∷ []
firsts_more [] t ts = refl
firsts_more ([] ∷ lists) t ts = firsts_more lists t ts
firsts_more ((x ∷ xs) ∷ lists) t ts = ap (λ (l : List ℕ). x ∷ l) (firsts_more lists t ts)

same_list : (xs : List ℕ) → xs ++ [] ≡ xs
same_list [] = refl
same_list (x ∷ xs) = ap (λ (l : List ℕ). x ∷ l) (same_list xs)

-- the starts, with one node more
pub starts_yes : (n : ℕ) (from : ℕ → ℕ) (k : ℕ) → from k ≡ n → starts n from (k + 1) ≡ starts n from k ++ k ∷ []
starts_yes n from k is = let test : (from k == n) ≡ true = grind (arith, nat_tests) in rw (add-one, test) refl

pub starts_no : (n : ℕ) (from : ℕ → ℕ) (k : ℕ) → from k ≢ n → starts n from (k + 1) ≡ starts n from k
starts_no n from k apart = go (from k == n) refl
  where
    go : (b : Bool) → (from k == n) ≡ b → starts n from (k + 1) ≡ starts n from k
    go true e = absurd (apart (grind (arith, nat_tests)))
    go false e = rw (add-one, e) (same_list (starts n from k))
