-- The rows have the ranges of their columns.
use Rattle.std.proofs.Common.{◌≡◌, ℕ, ◌≤◌, List, [], ◌∷◌, All, AllPairs, length, map, sym, ap, subst, ◌∙◌, refl, arith, suc, codes}
use Rattle.std.proofs.lemmas.List.Elements.{All-cons, All-nil}
use Rattle.vdv452_tables.specs.declared.net.Net.{Net}
use Rattle.vdv452_tables.specs.LookUps.{extra_of}
use Rattle.vdv452_tables.specs.Ranges.{Fits, IsTime}
use Rattle.vdv452_rows.specs.Schema as schema
use Rattle.plan_params.specs.declared.rows.group.Group.{Group}
use Rattle.plan_params.specs.declared.rows.pool.Pool.{Pool}
use Rattle.plan_params.specs.declared.rows.way.Way.{Way}
use Rattle.plan_params.specs.Limits.{IsGroup, IsPool}
use Rattle.plan_params.specs.Settings.{group_of, groups_of, in_order, pool_of, pools_of, way_of}
use Rattle.vdv452_tables.proofs.OrderLemmas.{order_all, order_length, order_rises}

map_all : {A B : Type 0} (P : A → Type 0) (Q : B → Type 0) (f : A → B) → ((x : A) → P x → Q (f x)) → (xs : List A) →
    All P xs → All Q (map f xs)
map_all P Q f each [] all = All-nil Q
map_all P Q f each (x ∷ xs) all =
    All-cons Q (f x) (map f xs) (each x (all 0 x (omega arith))) (map_all P Q f each xs (λ k d within. all (suc k) d (omega arith)))

map_length : {A B : Type 0} (f : A → B) (xs : List A) → length (map f xs) ≡ length xs
map_length f [] = refl
map_length f (x ∷ xs) = ap suc (map_length f xs)

pool_fits : (row : List ℕ) → Fits schema.depots.columns row → IsPool (pool_of row)
pool_fits row fits = record {
  cap = fits.within 4 (omega (arith, fits.width));
  fixed = fits.within 5 (omega (arith, fits.width));
  dead_rate = fits.within 6 (omega (arith, fits.width));
  stand_rate = fits.within 7 (omega (arith, fits.width));
}

group_fits : (row : List ℕ) → Fits schema.drivers.columns row → IsGroup (group_of row)
group_fits row fits = record {
  cap = fits.within 3 (omega (arith, fits.width));
  fixed = fits.within 4 (omega (arith, fits.width));
  rate = fits.within 5 (omega (arith, fits.width));
  sign_on = fits.within 6 (omega (arith, fits.width));
  sign_off = fits.within 7 (omega (arith, fits.width));
}

way_fits : (row : List ℕ) → Fits schema.ways.columns row → IsTime (way_of row).time
way_fits row fits = fits.within 4 (omega (arith, fits.width))

abbrev pool_number : Pool → ℕ
pool_number pool = pool.number

abbrev group_number : Group → ℕ
group_number group = group.number

module _ (net : Net) (rows : List (List ℕ)) where
  -- Pools have the ranges of their columns: each row that was read fits the columns of its table, the pool takes its numbers from
  -- the row's places, and putting pools in their order keeps what holds of each (`order_all`). In the same way groups and ways;
  -- costs and times in all crates above stay within their numbers by these ranges.
  pub pools_all : (pools : List Pool) → rows ≡ extra_of net (codes "X_HOF") → All (Fits schema.depots.columns) rows →
      pools ≡ pools_of net → All IsPool pools
  pools_all pools are fits is =
      subst (All IsPool) (ap (λ rs. in_order pool_number (map pool_of rs)) are ∙ sym is)
      (order_all pool_number IsPool (map pool_of rows) (map_all (Fits schema.depots.columns) IsPool pool_of pool_fits rows fits))

  pub groups_all : (groups : List Group) → rows ≡ extra_of net (codes "X_FAHRER") → All (Fits schema.drivers.columns) rows →
      groups ≡ groups_of net → All IsGroup groups
  groups_all groups are fits is =
      subst (All IsGroup) (ap (λ rs. in_order group_number (map group_of rs)) are ∙ sym is)
      (order_all group_number IsGroup (map group_of rows) (map_all (Fits schema.drivers.columns) IsGroup group_of group_fits rows fits))

  pub ways_all : (ways : List Way) → All (Fits schema.ways.columns) rows → ways ≡ map way_of rows →
      All (λ (way : Way). IsTime way.time) ways
  ways_all ways fits is =
      subst (All (λ (way : Way). IsTime way.time)) (sym is)
      (map_all (Fits schema.ways.columns) (λ (way : Way). IsTime way.time) way_of way_fits rows fits)

module _ (net : Net) where
  pub pools_few : (pools : List Pool) → pools ≡ pools_of net → length (extra_of net (codes "X_HOF")) ≤ 32 → length pools ≤ 32
  pools_few pools is few =
      omega (
        arith,
        few,
        ap length is ∙ order_length pool_number (map pool_of (extra_of net (codes "X_HOF")))
            ∙ map_length pool_of (extra_of net (codes "X_HOF")),
      )

  pub groups_few : (groups : List Group) → groups ≡ groups_of net → length (extra_of net (codes "X_FAHRER")) ≤ 32 → length groups ≤ 32
  groups_few groups is few =
      omega (
        arith,
        few,
        ap length is ∙ order_length group_number (map group_of (extra_of net (codes "X_FAHRER")))
            ∙ map_length group_of (extra_of net (codes "X_FAHRER")),
      )

  pub pools_rise : (pools : List Pool) → pools ≡ pools_of net → AllPairs (λ (earlier later : Pool). earlier.number ≤ later.number) pools
  pools_rise pools is = subst (AllPairs (λ (earlier later : Pool). earlier.number ≤ later.number)) (sym is)
      (order_rises pool_number (map pool_of (extra_of net (codes "X_HOF"))))

  pub groups_rise : (groups : List Group) → groups ≡ groups_of net →
      AllPairs (λ (earlier later : Group). earlier.number ≤ later.number) groups
  groups_rise groups is =
      subst (AllPairs (λ (earlier later : Group). earlier.number ≤ later.number)) (sym is)
      (order_rises group_number (map group_of (extra_of net (codes "X_FAHRER"))))
