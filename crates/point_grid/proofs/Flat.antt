-- Where the cells of a flat layout stand.
use Rattle.std.proofs.Common.{◌≡◌, ℕ, ◌+◌, ◌*◌, ◌<◌, zero, suc, List, [], ◌∷◌, ◌++◌, length, map, Option, Some, None, refl, sym, ap, subst, ◌∙◌, arith, slice_get, slice_index}
use Rattle.std.specs.List.{flat_map}
use Rattle.std.proofs.lemmas.List.{length-map, get_or-map}
use Rattle.std.proofs.lemmas.Option.{same_Some, slice_get_within, get_or_from_slice_get}
use Rattle.plan_core.specs.declared.types.Point.{Point}
use Rattle.point_grid.specs.declared.grid.Grid.{Grid}
use Rattle.point_grid.specs.Grid.{IsCell, IsGrid, told}

pub there : {A : Type 0} (xs : List A) (i : ℕ) → i < length xs → (x : A) × (slice_get xs i ≡ Some x)
there [] i within = absurd (omega (arith, within))
there (x ∷ xs) zero within = (x, refl)
there (x ∷ xs) (suc i) within = there xs i (omega (arith, within))

-- in the first of two lists
pub get_left : {A : Type 0} (xs ys : List A) (i : ℕ) (x : A) → slice_get xs i ≡ Some x → slice_get (xs ++ ys) i ≡ Some x
get_left [] ys i x e = absurd (cc)
get_left (y ∷ xs) ys zero x e = e
get_left (y ∷ xs) ys (suc i) x e = get_left xs ys i x e

-- in the second
pub get_right : {A : Type 0} (xs ys : List A) (k i : ℕ) → k ≡ length xs + i → slice_get (xs ++ ys) k ≡ slice_get ys i
get_right [] ys k i e = let same : k ≡ i = omega (arith, e) in ap (slice_get ys) same
get_right (x ∷ xs) ys zero i e = absurd (omega (arith, e))
get_right (x ∷ xs) ys (suc k) i e = get_right xs ys k i (omega (arith, e))

row_more : (r n c m : ℕ) → m ≡ n → suc r * n + c ≡ m + (r * n + c)
row_more r n c m e = omega (arith, e)

-- In rows of one length: where each item gives `n` entries, entry `c` of item `r` stands at `r * n + c` of all entries one after
-- another. By induction on the items: the entry is in the first item's, or behind them, where the place is less by `n`. That all
-- items give as many entries is needed, since the place is reckoned without going through the items before.
pub flat_at : {A B : Type 0} (f : A → List B) (n : ℕ) → ((a : A) → length (f a) ≡ n) → (rows : List A) (r : ℕ) (a : A) →
    slice_get rows r ≡ Some a →
    (c : ℕ) (b : B) → slice_get (f a) c ≡ Some b → (k : ℕ) → k ≡ r * n + c → slice_get (flat_map f rows) k ≡ Some b
flat_at f n wide [] r a at c b is k e = absurd (cc)
flat_at {A = A} {B = B} f n wide (x ∷ rows) zero a at c b is k e =
    let same : x ≡ a = same_Some x a at in
    let first : slice_get (f x) c ≡ Some b = let P : A → Type 0 = λ y. slice_get (f y) c ≡ Some b in subst P (sym same) is in
    let place : k ≡ c = omega (arith, e) in
    ap (λ (i : ℕ). slice_get (f x ++ flat_map f rows) i) place ∙ get_left (f x) (flat_map f rows) c b first
flat_at f n wide (x ∷ rows) (suc r) a at c b is k e =
    get_right (f x) (flat_map f rows) k (r * n + c) (e ∙ row_more r n c (length (f x)) (wide x))
    ∙ flat_at f n wide rows r a at c b is (r * n + c) refl

pub mapped_at : {A B : Type 0} (f : A → B) (xs : List A) (i : ℕ) (x : A) → slice_get xs i ≡ Some x → slice_get (map f xs) i ≡ Some (f x)
mapped_at f [] i x e = absurd (cc)
mapped_at f (y ∷ xs) zero x e = ap (λ z. Some (f z)) (same_Some y x e)
mapped_at f (y ∷ xs) (suc i) x e = mapped_at f xs i x e

-- The cell of a grid: at the number of a row's point and the number of a column's point stands the time from one to the other. So a
-- look-up by two points, which would search, is one by two numbers; `cell_within` shows that the place is in the grid, and
-- `cell_told` that what is read there tells the time, or that there is none.
pub grid_cell : (time : Point → Point → Option ℕ) (rows columns : List Point) (grid : Grid) (r c : ℕ) (from to : Point) →
    IsGrid time rows columns grid →
    slice_get rows r ≡ Some from → slice_get columns c ≡ Some to → IsCell grid r c (time from to)
grid_cell time rows columns grid r c from to is at at' =
    let row : Point → List (Option ℕ) = λ a. map (λ (b : Point). time a b) columns in
    ap (λ (cells : List (Option ℕ)). slice_get cells (r * grid.columns + c)) is.cells
    ∙ flat_at row (length columns) (λ a. length-map columns (λ (b : Point). time a b)) rows r from at c (time from to)
    (mapped_at (λ (b : Point). time from b) columns c to at') (r * grid.columns + c) (ap (λ n. r * n + c) is.width)

pub cell_within : (grid : Grid) (r c : ℕ) (time : Option ℕ) → IsCell grid r c time → r * grid.columns + c < length grid.cells
cell_within grid r c time is =
    let within = slice_get_within (map told grid.cells) (r * grid.columns + c) time is in
    omega (arith, within, length-map grid.cells told)

pub cell_told : (grid : Grid) (r c : ℕ) (time : Option ℕ) → IsCell grid r c time →
    told (slice_index grid.cells (r * grid.columns + c)) ≡ time
cell_told grid r c time is =
    sym (get_or-map told grid.cells (r * grid.columns + c) 0 None (cell_within grid r c time is))
    ∙ get_or_from_slice_get (map told grid.cells) (r * grid.columns + c) time None is
