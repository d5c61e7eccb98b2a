-- What each step does to the memory that holds a region.
use Rattle.std.proofs.Common.{ℕ, ◌+◌, ◌-◌, ◌<◌, ◌≤◌, List, [], ◌∷◌, ◌++◌, length, set, sym, subst, arith, length-append, length-set}
use Rattle.label_region.specs.Shelf.{Shelf, shelf, IsHeld, IsLive, AreBack}
use Rattle.label_region.proofs.Counts.{back_fits, back_has_room, back_push, back_pop, none_back}
use Rattle.label_region.proofs.Labels.{live_parts}

module _ {X : Type 0} where
  -- The numbers that were given back are all different and all used before; a live number is used and not among them. So they are
  -- fewer than the numbers used (`back_has_room`), for each of which the list has memory, and one more of them fits without asking
  -- for memory. `give_back` cannot fail for this reason.
  pub back_room_left : (s : Shelf X) (room back_room id : ℕ) → IsHeld s room back_room → IsLive s id → length s.back < back_room
  back_room_left s room back_room id held live =
      let parts = live_parts s id live in let left = back_has_room (length s.cells) id s.back held.back parts.0 parts.1 in
      let fit = held.back_fits in omega arith

  pub spare_small : (s : Shelf X) (room back_room id : ℕ) → IsHeld s room back_room → IsLive s id → s.spare + 1 < 2147483648
  spare_small s room back_room id held live =
      let parts = live_parts s id live in let left = back_has_room (length s.cells) id s.back held.back parts.0 parts.1 in
      let few = held.few in omega arith

  -- Giving a live number back keeps what the region's memory is held to. The list of numbers back gets one longer and one label more
  -- is spare, so both sides of each bound on the spare grow by one; `AreBack` stays since the number was live, hence used before and
  -- not yet back. The lemmas after it say the same of each other step of a region: clearing, using a number again or first, and more
  -- memory.
  pub held_given_back : (s : Shelf X) (room back_room id : ℕ) → IsHeld s room back_room → IsLive s id →
      IsHeld (shelf s.cells (s.back ++ id ∷ []) (s.spare + 1)) room back_room
  held_given_back s room back_room id held live =
      let parts = live_parts s id live in
      let longer = length-append s.back (id ∷ []) in
      let a = held.spare_fits in let b = held.spare_back_fits in let f = held.few in let u = held.few_used in record {
        back = back_push (length s.cells) id s.back held.back parts.0 parts.1;
        cells_fit = held.cells_fit;
        spare_fits = omega arith;
        back_fits = held.back_fits;
        spare_back_fits = omega arith;
        few = omega arith;
        few_used = omega arith;
      }

  pub held_cleared : (s : Shelf X) (room back_room : ℕ) → IsHeld s room back_room → IsHeld {X = X} (shelf [] [] s.spare) room back_room
  held_cleared s room back_room held =
      let fits = back_fits (length s.cells) s.back held.back in
      let a = held.spare_fits in let b = held.spare_back_fits in let f = held.few in let u = held.few_used in record {
        back = none_back 0;
        cells_fit = omega arith;
        spare_fits = omega arith;
        back_fits = omega arith;
        spare_back_fits = omega arith;
        few = omega arith;
        few_used = omega arith;
      }

  -- the last number given back is used again
  pub held_again : (cells : List X) (back : List ℕ) (spare id room back_room : ℕ) (label : X) →
      IsHeld (shelf cells (back ++ id ∷ []) spare) room back_room → 0 < spare
      → IsHeld (shelf (set cells id label) back (spare - 1)) room back_room
  held_again cells back spare id room back_room label held some =
      let parts = back_pop (length cells) id back held.back in
      let longer = length-append back (id ∷ []) in let same = length-set cells id label in
      let a = held.spare_fits in let b = held.spare_back_fits in let f = held.few in let u = held.few_used in let c = held.cells_fit in
      let d = held.back_fits in record {
        back = subst (λ n. AreBack n back) (sym same) parts.0;
        cells_fit = omega arith;
        spare_fits = omega arith;
        back_fits = omega arith;
        spare_back_fits = omega arith;
        few = omega arith;
        few_used = omega arith;
      }

  -- a number is used for the first time
  pub held_first : (cells : List X) (spare room back_room : ℕ) (label : X) → IsHeld (shelf cells [] spare) room back_room → 0 < spare
      → IsHeld (shelf (cells ++ label ∷ []) [] (spare - 1)) room back_room
  held_first cells spare room back_room label held some =
      let longer = length-append cells (label ∷ []) in
      let a = held.spare_fits in let b = held.spare_back_fits in let f = held.few in let u = held.few_used in let c = held.cells_fit in
      let d = held.back_fits in record {
        back = none_back (length (cells ++ label ∷ []));
        cells_fit = omega arith;
        spare_fits = omega arith;
        back_fits = omega arith;
        spare_back_fits = omega arith;
        few = omega arith;
        few_used = omega arith;
      }

  -- more memory, and so more spare
  pub held_wider : (cells : List X) (back : List ℕ) (spare more room back_room wide back_wide : ℕ) →
      IsHeld (shelf cells back spare) room back_room
      → length cells ≤ wide → length cells + more ≤ wide + length back → length cells ≤ back_wide →
      length cells + more ≤ back_wide + length back → length cells + more < 2147483648 + length back
      → IsHeld (shelf cells back more) wide back_wide
  held_wider cells back spare more room back_room wide back_wide held a b c d e = record {
    back = held.back;
    cells_fit = a;
    spare_fits = b;
    back_fits = c;
    spare_back_fits = d;
    few = e;
    few_used = held.few_used;
  }
