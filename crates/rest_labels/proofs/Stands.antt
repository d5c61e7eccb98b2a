-- What the items of a rest stand for.
use Rattle.std.proofs.Common.{◌≡◌, ℕ, ◌+◌, ◌<◌, zero, suc, List, [], ◌∷◌, ◌++◌, length, drop, ap, slice_index_or}
use Rattle.std.proofs.lemmas.List.{drop_more}
use Rattle.cover_core.specs.Cover.{AllBelow}
use Rattle.cover_rest.specs.Rest.{body_at, joined, written}

below-front : (n : ℕ) (xs ys : List ℕ) → AllBelow n (xs ++ ys) → AllBelow n xs
below-front n [] ys below = tt
below-front n (x ∷ xs) ys below = (below.0, below-front n xs ys below.1)

below-back : (n : ℕ) (xs ys : List ℕ) → AllBelow n (xs ++ ys) → AllBelow n ys
below-back n [] ys below = below
below-back n (x ∷ xs) ys below = below-back n xs ys below.1

-- the trips or pieces that an item stands for are there
pub body-below : (n : ℕ) (bs : List (List ℕ)) (x : ℕ) → AllBelow n (joined bs) → AllBelow n (body_at bs x)
body-below n [] x below = tt
body-below n (b ∷ bs) zero below = below-front n b (joined bs) below
body-below n (b ∷ bs) (suc x) below = body-below n bs x (below-back n b (joined bs) below)

-- an item more is written out
pub written-more : (bs : List (List ℕ)) (list : List ℕ) (i : ℕ) → i < length list →
    written bs (drop i list) ≡ body_at bs (slice_index_or list i 0) ++ written bs (drop (i + 1) list)
written-more bs list i within = ap (written bs) (drop_more list i 0 within)
