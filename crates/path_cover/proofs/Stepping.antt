-- A step of a search: a column with a free place begins the walk back.
use Rattle.std.proofs.Common.{ap, ◌≡◌, ℕ, pos, ◌+◌, ◌<◌, ◌≤◌, Bool, true, false, cond, nat_lt, Some, None, get_or, inl, inr, sym, ◌∙◌, arith}
use Rattle.std.specs.Option.{option_map}
use Rattle.std.proofs.lemmas.Bool.{cases_lt}
use Rattle.std.proofs.lemmas.Bool.Decides.{nat_tests}
use Rattle.path_cover.specs.declared.growth.Falls.{Falls}
use Rattle.path_cover.specs.declared.growth.Growth.{Growth}
use Rattle.path_cover.specs.declared.growth.Target.{Target}
use Rattle.path_cover.specs.declared.placing.Placing.{Placing}
use Rattle.path_cover.specs.Augmenting.{IsTightAs, IsWalkOf, aim_of, potentials_of, tree_of}
use Rattle.path_cover.specs.Nets.{Net}
use Rattle.path_cover.specs.Searching.{IsSeated, IsStuck, IsTreedAs, seen_count}
use Rattle.path_cover.proofs.Counts.{count_full}
use Rattle.path_cover.proofs.Growing.{begin_walk}

pub free_place : (n v from room : ℕ) → v ≤ n → cond (nat_lt v n) (nat_lt n from) (nat_lt 0 room) ≡ true →
    (v < n → n < from) × (v ≡ n → 0 < room)
free_place n v from room v_in e = elim (cases_lt v n) [
  | inl below ↦
      let test : nat_lt v n ≡ true = grind (arith, nat_tests) in
      let at : nat_lt n from ≡ true = sym (ap (λ (b : Bool). cond b (nat_lt n from) (nat_lt 0 room)) test) ∙ e in
      let less : n < from = grind (arith, nat_tests) in
      (λ column. less, λ at_end. absurd (omega arith))
  | inr past ↦
      let test : nat_lt v n ≡ false = grind (arith, nat_tests) in
      let at : nat_lt 0 room ≡ true = sym (ap (λ (b : Bool). cond b (nat_lt n from) (nat_lt 0 room)) test) ∙ e in
      let some : 0 < room = grind (arith, nat_tests) in
      (λ column. absurd (omega arith), λ at_end. some)
]

pub no_place : (n v from room : ℕ) → v ≤ n → cond (nat_lt v n) (nat_lt n from) (nat_lt 0 room) ≡ false →
    (v < n → from ≤ n) × (v ≡ n → room ≡ 0)
no_place n v from room v_in e = elim (cases_lt v n) [
  | inl below ↦
      let test : nat_lt v n ≡ true = grind (arith, nat_tests) in
      let at : nat_lt n from ≡ false = sym (ap (λ (b : Bool). cond b (nat_lt n from) (nat_lt 0 room)) test) ∙ e in
      let less : from ≤ n = grind (arith, nat_tests) in
      (λ column. less, λ at_end. absurd (omega arith))
  | inr past ↦
      let test : nat_lt v n ≡ false = grind (arith, nat_tests) in
      let at : nat_lt 0 room ≡ false = sym (ap (λ (b : Bool). cond b (nat_lt n from) (nat_lt 0 room)) test) ∙ e in
      let none : room ≤ 0 = grind (arith, nat_tests) in
      (λ column. absurd (omega arith), λ at_end. omega arith)
]

pub walk_of : (net : Net) (falls : Falls) (placing : Placing) (growth : Growth) (target : Target) (n v : ℕ) →
    IsTreedAs net falls placing growth target → n ≡ net.nodes → v ≤ net.nodes →
    get_or growth.columns.items v false ≡ false → get_or growth.least.items v None ≡ Some 0 →
    cond (nat_lt v n) (nat_lt n (get_or placing.from.items v 0)) (nat_lt 0 placing.room) ≡ true →
    IsWalkOf net falls target growth placing v
walk_of net falls placing growth target n v treed n_is v_in unseen none free =
    let m = treed.0 in
    let is = treed.1 in
    let place = free_place n v (get_or placing.from.items v 0) placing.room (omega arith) free in (
      m,
      is.seat.kept,
      begin_walk net (potentials_of falls) m (aim_of target) (tree_of growth) v is.tree v_in unseen
          (ap (option_map (λ (k : ℕ). pos k)) none) is.seat.held is.seat.tight (record {
            column_in = v_in;
            column = λ below. (let same = is.seat.kept.from v below in let past = place.0 (omega arith) in omega arith);
            room = λ at_end. (let same = is.seat.kept.room in let some = place.1 (omega arith) in omega arith);
          }),
    )

pub placed_seated : (net : Net) (falls : Falls) (old new : Placing) → IsSeated net falls old →
    IsTightAs net falls new → IsSeated net falls new
placed_seated net falls old new seated tight =
    let is = seated.1 in
    (tight.0, record { kept = tight.1; held = tight.2; tight = tight.3; places = is.places; feasible = is.feasible; few = is.few })

-- a tree whose columns are all seen
pub all_seen : (net : Net) (falls : Falls) (placing : Placing) (growth : Growth) (target : Target) →
    IsTreedAs net falls placing growth target → seen_count growth.columns.items ≡ net.nodes + 1 → IsStuck net falls placing target
all_seen net falls placing growth target treed all =
    let is = treed.1 in
    let count = is.sized.columns in (
      treed.0,
      tree_of growth,
      record {
        seat = is.seat;
        grown = is.tree;
        halted = λ v d v_in unseen e. absurd (let seen = count_full growth.columns.items (omega arith) v (omega arith) in
            let two : true ≡ false = sym seen ∙ unseen in cc);
      },
    )
