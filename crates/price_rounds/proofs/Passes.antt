-- From one round to the next.
use Rattle.std.proofs.Common.{◌≡◌, ℕ, ℤ, ◌+◌, suc, List, [], ◌∷◌, ◌++◌, refl, sym, ap, ◌∙◌, subst, arith, append_assoc, append-nil}
use Rattle.std.proofs.lemmas.List.FromFn.{map-range_with_len_more}
use Rattle.plan_core.specs.declared.Price.{Price}
use Rattle.cover_core.specs.declared.Column.{Column}
use Rattle.cover_core.specs.Cover.{Problem}
use Rattle.cover_master.specs.Method.{starting_prices, step_size_of}
use Rattle.dual_bound.specs.declared.kept.Kept.{Kept}
use Rattle.dual_bound.specs.Offers.{kept_after}
use Rattle.worker_price.specs.Priced.{priced_columns}
use Rattle.price_rounds.specs.declared.progress.Progress.{Progress}
use Rattle.price_rounds.specs.Rounds.{Standing, round_from, after_rounds, after_lowering, pool_with, turned_often, lowered_in_order, greatest_of, offer_at, round_offers, lowering_offers, IsFirstGreatest}
use Rattle.price_rounds.specs.Steps.{IsReady, HasRounds, HasLowered}
use Rattle.price_rounds.proofs.Offers.{first_alone, first_next}

before_all : (p : Problem) → after_rounds p 0 ≡ record { prices = starting_prices p; pool = [] }
unfolding after_rounds
before_all p = refl

after_next : (p : Problem) (n : ℕ) → after_rounds p (suc n) ≡ round_from p (suc n) (after_rounds p n)
unfolding after_rounds
after_next p n = refl

round_pool : (p : Problem) (round : ℕ) (s : Standing) → (round_from p round s).pool ≡ pool_with s.pool (priced_columns p s.prices)
unfolding round_from
round_pool p round s = refl

round_prices : (p : Problem) (round : ℕ) (s : Standing) →
    (round_from p round s).prices ≡ turned_often 16 (pool_with s.pool (priced_columns p s.prices)) p.caps
    (step_size_of (greatest_of (starting_prices p)) round) s.prices
unfolding round_from
round_prices p round s = refl

lowered_none : (p : Problem) (rounds : ℕ) → after_lowering p rounds 0 ≡ (after_rounds p rounds).prices
unfolding after_lowering
lowered_none p rounds = refl

lowered_next : (p : Problem) (rounds n : ℕ) →
    after_lowering p rounds (suc n) ≡ lowered_in_order (priced_columns p (after_lowering p rounds n)) (after_lowering p rounds n)
unfolding after_lowering
lowered_next p rounds n = refl

-- what one price round does
pub record Moves (p : Problem) (round : ℕ) (prices : List Price) (pool : List Column) (new : Progress) : Type 0 where
  pub columns : List Column
  pub priced : columns ≡ priced_columns p prices
  pub added : new.pool ≡ pool_with pool columns
  pub greatest : ℤ
  pub greatest_is : greatest ≡ greatest_of (starting_prices p)
  pub size : ℤ
  pub sized : size ≡ step_size_of greatest round
  pub turned : new.prices.items ≡ turned_often 16 new.pool p.caps size prices

module _ (p : Problem) (round : ℕ) (s : Standing) (prices : List Price) (pool : List Column) (new : Progress)
    (moves : Moves p round prices pool new) (at_prices : prices ≡ s.prices) (at_pool : pool ≡ s.pool) where
  pub moved_pool : new.pool ≡ (round_from p round s).pool
  moved_pool =
      moves.added ∙ (ap (λ (l : List Column). pool_with l moves.columns) at_pool
      ∙ (ap (λ (l : List Column). pool_with s.pool l) (moves.priced ∙ ap (λ (l : List Price). priced_columns p l) at_prices)
      ∙ sym (round_pool p round s)))

  pub moved_prices : new.prices.items ≡ (round_from p round s).prices
  moved_prices =
      let size : moves.size ≡ step_size_of (greatest_of (starting_prices p)) round =
      moves.sized ∙ ap (λ (g : ℤ). step_size_of g round) moves.greatest_is in
      let after : List Column = pool_with s.pool (priced_columns p s.prices) in
      moves.turned ∙ (ap (λ (l : List Column). turned_often 16 l p.caps moves.size prices) (moved_pool ∙ round_pool p round s)
      ∙ (ap (λ (z : ℤ). turned_often 16 (pool_with s.pool (priced_columns p s.prices)) p.caps z prices) size
      ∙ (ap (λ (l : List Price). turned_often 16 (pool_with s.pool (priced_columns p s.prices)) p.caps
      (step_size_of (greatest_of (starting_prices p)) round) l) at_prices
      ∙ sym (round_prices p round s))))

-- the offer at the start of a price round
abbrev round_offer : Problem → ℕ → Kept
round_offer p n = offer_at p (after_rounds p n).prices

abbrev lowering_offer : Problem → ℕ → ℕ → Kept
lowering_offer p rounds n = offer_at p (after_lowering p rounds n)

more_rounds : (p : Problem) (n : ℕ) → round_offers p (n + 1) ≡ round_offers p n ++ round_offer p n ∷ []
more_rounds p n = map-range_with_len_more (round_offer p) 0 n n (omega arith)

more_lowering : (p : Problem) (rounds n : ℕ) →
    lowering_offers p rounds (n + 1) ≡ lowering_offers p rounds n ++ lowering_offer p rounds n ∷ []
more_lowering p rounds n = map-range_with_len_more (lowering_offer p rounds) 0 n n (omega arith)

pub first_round_done : (p : Problem) (start : List Price) (new : Progress) → start ≡ starting_prices p → Moves p 1 start [] new →
    new.kept ≡ offer_at p start → IsReady p new → HasRounds p 1 new
first_round_done p start new starts moves kept ready =
    let s : Standing = after_rounds p 0 in
    let at_prices : start ≡ (after_rounds p 0).prices = starts ∙ sym (ap (λ (t : Standing). t.prices) (before_all p)) in
    let at_pool : [] ≡ (after_rounds p 0).pool = sym (ap (λ (t : Standing). t.pool) (before_all p)) in
    let offer : new.kept ≡ round_offer p 0 = kept ∙ ap (λ (l : List Price). offer_at p l) at_prices in
    let P : Kept → Type 0 = λ k. IsFirstGreatest (round_offer p 0 ∷ []) k in
    record {
      prices = moved_prices p 1 (after_rounds p 0) start [] new moves at_prices at_pool
          ∙ sym (ap (λ (t : Standing). t.prices) (after_next p 0));
      pool = moved_pool p 1 (after_rounds p 0) start [] new moves at_prices at_pool ∙ sym (ap (λ (t : Standing). t.pool) (after_next p 0));
      kept = subst P (sym offer) (first_alone (round_offer p 0));
      ready = ready;
    }

-- The invariant of price rounds, one round on: prices, pool and kept offer are those that the definition has after so many rounds.
-- Each round is a function of prices and pool alone (`round_from`), since what pricing gives is a function of the prices: no round
-- remembers who found which column.
pub next_round_done : (p : Problem) (n : ℕ) (old new : Progress) → HasRounds p n old → Moves p (n + 1) old.prices.items old.pool new →
    new.kept ≡ kept_after old.kept (offer_at p old.prices.items) → IsReady p new → HasRounds p (n + 1) new
next_round_done p n old new has moves kept ready =
    let one : n + 1 ≡ suc n = omega arith in
    let next : after_rounds p (n + 1) ≡ round_from p (n + 1) (after_rounds p n) =
    ap (after_rounds p) one ∙ (after_next p n ∙ ap (λ (m : ℕ). round_from p m (after_rounds p n)) (sym one)) in
    let offer : new.kept ≡ kept_after old.kept (round_offer p n) =
    kept ∙ ap (λ (l : List Price). kept_after old.kept (offer_at p l)) has.prices in
    let P : Kept → Type 0 = λ k. IsFirstGreatest (round_offers p n ++ round_offer p n ∷ []) k in
    let Q : List Kept → Type 0 = λ l. IsFirstGreatest l new.kept in
    record {
      prices = moved_prices p (n + 1) (after_rounds p n) old.prices.items old.pool new moves has.prices has.pool
          ∙ sym (ap (λ (t : Standing). t.prices) next);
      pool = moved_pool p (n + 1) (after_rounds p n) old.prices.items old.pool new moves has.prices has.pool
          ∙ sym (ap (λ (t : Standing). t.pool) next);
      kept = subst Q (sym (more_rounds p n)) (subst P (sym offer) (first_next (round_offers p n) old.kept (round_offer p n) has.kept));
      ready = ready;
    }

pub lowering_begins : (p : Problem) (rounds : ℕ) (progress : Progress) → HasRounds p rounds progress → HasLowered p rounds 0 progress
lowering_begins p rounds progress has =
    let P : List Kept → Type 0 = λ l. IsFirstGreatest l progress.kept in
    record {
      prices = has.prices ∙ sym (lowered_none p rounds);
      pool = has.pool;
      kept = subst P (sym (append-nil (round_offers p rounds))) has.kept;
      ready = has.ready;
    }

-- one more offer in a lowering round, or after the last of them
pub offered_lower : (p : Problem) (rounds n : ℕ) (old : Progress) (new : Kept) → HasLowered p rounds n old →
    new ≡ kept_after old.kept (offer_at p old.prices.items) →
    IsFirstGreatest (round_offers p rounds ++ lowering_offers p rounds (n + 1)) new
offered_lower p rounds n old new has kept =
    let offer : new ≡ kept_after old.kept (lowering_offer p rounds n) =
    kept ∙ ap (λ (l : List Price). kept_after old.kept (offer_at p l)) has.prices in
    let before : List Kept = round_offers p rounds ++ lowering_offers p rounds n in
    let all : (round_offers p rounds ++ lowering_offers p rounds n) ++ lowering_offer p rounds n ∷ [] ≡ round_offers p rounds
    ++ lowering_offers p rounds (n + 1) =
    append_assoc (round_offers p rounds) (lowering_offers p rounds n) (lowering_offer p rounds n ∷ [])
    ∙ ap (λ (l : List Kept). round_offers p rounds ++ l) (sym (more_lowering p rounds n)) in
    let P : Kept → Type 0 =
    λ k. IsFirstGreatest ((round_offers p rounds ++ lowering_offers p rounds n) ++ lowering_offer p rounds n ∷ []) k in
    let Q : List Kept → Type 0 = λ l. IsFirstGreatest l new in
    subst Q all (subst P (sym offer)
    (first_next (round_offers p rounds ++ lowering_offers p rounds n) old.kept (lowering_offer p rounds n) has.kept))

-- The invariant of lowering rounds: the pool is still that of the price rounds, prices are lowered by what pricing finds at them,
-- and the offers of both kinds of rounds stand in one list, from which the first of the greatest bound is kept.
pub lowering_done : (p : Problem) (rounds n : ℕ) (old new : Progress) (columns : List Column) → HasLowered p rounds n old →
    columns ≡ priced_columns p old.prices.items →
    new.prices.items ≡ lowered_in_order columns old.prices.items → new.pool ≡ old.pool →
    new.kept ≡ kept_after old.kept (offer_at p old.prices.items) → IsReady p new → HasLowered p rounds (n + 1) new
lowering_done p rounds n old new columns has priced lowered pool kept ready =
    let one : n + 1 ≡ suc n = omega arith in
    let next : after_lowering p rounds (n + 1) ≡ lowered_in_order (priced_columns p (after_lowering p rounds n))
    (after_lowering p rounds n) = ap (after_lowering p rounds) one ∙ lowered_next p rounds n in
    record {
      prices =
          lowered ∙ (ap (λ (l : List Column). lowered_in_order l old.prices.items)
          (priced ∙ ap (λ (l : List Price). priced_columns p l) has.prices)
          ∙ (ap (λ (l : List Price). lowered_in_order (priced_columns p (after_lowering p rounds n)) l) has.prices ∙ sym next));
      pool = pool ∙ has.pool;
      kept = offered_lower p rounds n old new.kept has kept;
      ready = ready;
    }
