-- What numbers show when labels come and go.
use Rattle.std.proofs.Common.{◌≡◌, ◌≢◌, ℕ, ◌+◌, ◌<◌, Bool, true, false, zero, suc, List, [], ◌∷◌, ◌++◌, length, take, drop, refl, sym, ap, subst, ◌∙◌, add-one, append_assoc, arith, slice_get}
use Rattle.std.specs.Prelude.{Option, Some, None, IsSome, is_some, slice_index_or, if◌then◌else◌}
use Rattle.std.specs.List.{cons_option}
use Rattle.std.proofs.lemmas.List.Elements.{filter_map-append}
use Rattle.label_region.specs.Shelf.{IsLive, Shelf, label_at}
use Rattle.label_store.specs.Stocks.{AreLive, AreOnce, IsNotIn, IsStocked, shown}

-- Both lists of a stock name cells of one region by number. This section is about numbers alone: no number stands twice in the two
-- lists together, and this stays so when one is put behind the second list (`once-more`) or taken out of it (`once-both-less`). From
-- it follows that a cell that is given back or written anew is the cell of one place only.
pub not-in-left : (id : ℕ) (xs ys : List ℕ) → IsNotIn id (xs ++ ys) → IsNotIn id xs
not-in-left id [] ys h = tt
not-in-left id (x ∷ xs) ys h = (h.0, not-in-left id xs ys h.1)

pub not-in-right : (id : ℕ) (xs ys : List ℕ) → IsNotIn id (xs ++ ys) → IsNotIn id ys
not-in-right id [] ys h = h
not-in-right id (x ∷ xs) ys h = not-in-right id xs ys h.1

pub not-in-both : (id : ℕ) (xs ys : List ℕ) → IsNotIn id xs → IsNotIn id ys → IsNotIn id (xs ++ ys)
not-in-both id [] ys h k = k
not-in-both id (x ∷ xs) ys h k = (h.0, not-in-both id xs ys h.1 k)

-- a number more at the end
pub once-more : (id : ℕ) (xs : List ℕ) → AreOnce xs → IsNotIn id xs → AreOnce (xs ++ id ∷ [])
once-more id [] h k = (tt, tt)
once-more id (x ∷ xs) h k = (not-in-both x xs (id ∷ []) h.0 ((λ e. k.0 (sym e)), tt), once-more id xs h.1 k.1)

-- without the number at a place
pub not-in-less : (id : ℕ) (xs : List ℕ) (i : ℕ) → IsNotIn id xs → IsNotIn id (take i xs ++ drop (suc i) xs)
not-in-less id [] zero h = tt
not-in-less id [] (suc i) h = tt
not-in-less id (x ∷ xs) zero h = h.1
not-in-less id (x ∷ xs) (suc i) h = (h.0, not-in-less id xs i h.1)

pub once-less : (xs : List ℕ) (i : ℕ) → AreOnce xs → AreOnce (take i xs ++ drop (suc i) xs)
once-less [] zero h = tt
once-less [] (suc i) h = tt
once-less (x ∷ xs) zero h = h.1
once-less (x ∷ xs) (suc i) h = (not-in-less x xs i h.0, once-less xs i h.1)

-- the number at a place is in no other
not-there : (y : ℕ) (ys : List ℕ) (j z : ℕ) → IsNotIn y ys → j < length ys → y ≢ slice_index_or ys j z
not-there y [] j z k c = absurd (omega arith)
not-there y (x ∷ xs) zero z k c = k.0
not-there y (x ∷ xs) (suc j) z k c = not-there y xs j z k.1 (omega arith)

pub apart-at : (xs : List ℕ) (i z : ℕ) → AreOnce xs → i < length xs → IsNotIn (slice_index_or xs i z) (take i xs ++ drop (suc i) xs)
apart-at [] i z h b = absurd (omega arith)
apart-at (x ∷ xs) zero z h b = h.0
apart-at (x ∷ xs) (suc i) z h b = ((λ e. not-there x xs i z h.0 (omega arith) (sym e)), apart-at xs i z h.1 (omega arith))

-- The number that is taken out of the made labels is that of no kept label, and of no other made one (`apart-at`). So when its cell
-- is given back to the region, each label that stays is in a cell of its own and is seen as before.
pub apart-kept : (kept made : List ℕ) (i z : ℕ) → AreOnce (kept ++ made) → i < length made → IsNotIn (slice_index_or made i z) kept
apart-kept [] made i z h b = tt
apart-kept (x ∷ xs) made i z h b = ((λ e. not-there x made i z (not-in-right x xs made h.0) b (sym e)), apart-kept xs made i z h.1 b)

pub once-right : (kept made : List ℕ) → AreOnce (kept ++ made) → AreOnce made
once-right [] made h = h
once-right (x ∷ xs) made h = once-right xs made h.1

pub once-both-less : (kept made : List ℕ) (i : ℕ) → AreOnce (kept ++ made) → AreOnce (kept ++ (take i made ++ drop (suc i) made))
once-both-less [] made i h = once-less made i h
once-both-less (x ∷ xs) made i h = (
  not-in-both x xs (take i made ++ drop (suc i) made) (not-in-left x xs made h.0) (not-in-less x made i (not-in-right x xs made h.0)),
  once-both-less xs made i h.1,
)

append-none : (xs : List ℕ) → xs ++ [] ≡ xs
append-none [] = refl
append-none (x ∷ xs) = ap (λ (l : List ℕ). x ∷ l) (append-none xs)

module _ {X : Type 0} where
  some-of : (o : Option X) → IsSome o → (x : X) × (o ≡ Some x)
  some-of None h = absurd (cc)
  some-of (Some x) h = (x, refl)

  shown-cons : (s : Shelf X) (id : ℕ) (ids : List ℕ) (x : X) → label_at s id ≡ Some x → shown s (id ∷ ids) ≡ x ∷ shown s ids
  shown-cons s id ids x e = ap (λ (o : Option X). cons_option o (shown s ids)) e

  pub shown-length : (s : Shelf X) (ids : List ℕ) → AreLive s ids → length (shown s ids) ≡ length ids
  shown-length s [] h = refl
  shown-length s (id ∷ ids) h =
      let x = some-of (label_at s id) h.0 in
      let rest = shown-length s ids h.1 in
      ap (λ (l : List X). length l) (shown-cons s id ids x.0 x.1) ∙ (omega (arith, rest))

  -- The list that contracts see is the list of the cells' labels, place by place: a number that is not live would be left out and
  -- move all after it, but all numbers of a stock are live, so there are as many labels as numbers (`shown-length`) and place i
  -- shows the cell of the number at place i. `kept_at` and `made_at` rest on it.
  pub shown-at : (s : Shelf X) (ids : List ℕ) (i z : ℕ) → AreLive s ids → i < length ids →
      slice_get (shown s ids) i ≡ label_at s (slice_index_or ids i z)
  shown-at s [] i z h b = absurd (omega arith)
  shown-at s (id ∷ ids) zero z h b =
      let x = some-of (label_at s id) h.0 in
      ap (λ (l : List X). slice_get l 0) (shown-cons s id ids x.0 x.1) ∙ sym x.1
  shown-at s (id ∷ ids) (suc i) z h b =
      let x = some-of (label_at s id) h.0 in
      ap (λ (l : List X). slice_get l (suc i)) (shown-cons s id ids x.0 x.1) ∙ shown-at s ids i z h.1 (omega arith)

  pub live-at : (s : Shelf X) (ids : List ℕ) (i z : ℕ) → AreLive s ids → i < length ids → IsLive s (slice_index_or ids i z)
  live-at s [] i z h b = absurd (omega arith)
  live-at s (id ∷ ids) zero z h b = h.0
  live-at s (id ∷ ids) (suc i) z h b = live-at s ids i z h.1 (omega arith)

  pub live-left : (s : Shelf X) (xs ys : List ℕ) → AreLive s (xs ++ ys) → AreLive s xs
  live-left s [] ys h = tt
  live-left s (x ∷ xs) ys h = (h.0, live-left s xs ys h.1)

  pub live-right : (s : Shelf X) (xs ys : List ℕ) → AreLive s (xs ++ ys) → AreLive s ys
  live-right s [] ys h = h
  live-right s (x ∷ xs) ys h = live-right s xs ys h.1

  pub live-both : (s : Shelf X) (xs ys : List ℕ) → AreLive s xs → AreLive s ys → AreLive s (xs ++ ys)
  live-both s [] ys h k = k
  live-both s (x ∷ xs) ys h k = (h.0, live-both s xs ys h.1 k)

  -- The frame of the region: where two regions show the same under every number but one, and a list of numbers does not have this
  -- one, the list shows the same labels in both, and its numbers stay live (`live-same`). Each operation of a stock changes one
  -- cell; the lemmas below only have to say that its number is in neither list, or in which place.
  pub shown-same : (s t : Shelf X) (id : ℕ) (ids : List ℕ) → ((x : ℕ) → x ≢ id → label_at t x ≡ label_at s x) →
      IsNotIn id ids → shown t ids ≡ shown s ids
  shown-same s t id [] same h = refl
  shown-same s t id (x ∷ xs) same h =
      let here : label_at t x ≡ label_at s x = same x (λ e. h.0 (sym e)) in
      ap (λ (o : Option X). cons_option o (shown t xs)) here
      ∙ ap (λ (l : List X). cons_option (label_at s x) l) (shown-same s t id xs same h.1)

  pub live-same : (s t : Shelf X) (id : ℕ) (ids : List ℕ) → ((x : ℕ) → x ≢ id → label_at t x ≡ label_at s x) → IsNotIn id ids →
      AreLive s ids → AreLive t ids
  live-same s t id [] same h l = tt
  live-same s t id (x ∷ xs) same h l =
      let here : label_at s x ≡ label_at t x = sym (same x (λ e. h.0 (sym e))) in
      (subst (λ (o : Option X). IsSome o) here l.0, live-same s t id xs same h.1 l.1)

  -- A number that is free in the region stands in neither list, because all numbers of the lists are live. The region says of the
  -- number for a new label no more than that it was free; this is how it is known to be new to the stock, too.
  pub free-not-in : (s : Shelf X) (id : ℕ) (ids : List ℕ) → label_at s id ≡ None → AreLive s ids → IsNotIn id ids
  free-not-in s id [] free l = tt
  free-not-in s id (x ∷ xs) free l = (
    (λ e. let none : label_at s x ≡ None = ap (label_at s) (sym e) ∙ free in
        let live : IsSome (label_at s x) = l.0 in
        let bad : is_some {T = X} None ≡ true = subst (λ (o : Option X). IsSome o) none live in cc),
    free-not-in s id xs free l.1,
  )

  -- how many labels there is memory for changes nothing
  pub live-spare : (s : Shelf X) (n : ℕ) (ids : List ℕ) → AreLive s ids → AreLive (record s { spare = n }) ids
  live-spare s n [] h = tt
  live-spare s n (x ∷ xs) h = (h.0, live-spare s n xs h.1)

  pub shown-spare : (s : Shelf X) (n : ℕ) (ids : List ℕ) → shown (record s { spare = n }) ids ≡ shown s ids
  shown-spare s n [] = refl
  shown-spare s n (x ∷ xs) = ap (λ (l : List X). cons_option (label_at s x) l) (shown-spare s n xs)

  pub shown-both : (s : Shelf X) (xs ys : List ℕ) → shown s (xs ++ ys) ≡ shown s xs ++ shown s ys
  shown-both s xs ys = filter_map-append (label_at s) xs ys

  -- Putting a label in keeps the invariant of the stock: the number was free, so it is in neither list; the old numbers stay live by
  -- the frame, the new one is live as its cell has the label, and no number stands twice. `put-kept` and `put-made` say what is then
  -- seen: the kept labels as before, and the made ones with the new label behind. `put-loose` is for a push that fails after the
  -- cell was filled.
  pub put-stocked : (s t : Shelf X) (id : ℕ) (x : X) (kept made : List ℕ) → IsStocked s kept made →
      label_at s id ≡ None → label_at t id ≡ Some x →
      ((y : ℕ) → y ≢ id → label_at t y ≡ label_at s y) → IsStocked t kept (made ++ id ∷ [])
  put-stocked s t id x kept made h free here others =
      let apart : IsNotIn id (kept ++ made) = free-not-in s id (kept ++ made) free h.live in
      let live : AreLive t (kept ++ made) = live-same s t id (kept ++ made) others apart h.live in
      let own : IsSome (label_at t id) = subst (λ (o : Option X). IsSome o) (sym here) refl in
      let same : (kept ++ made) ++ (id ∷ []) ≡ kept ++ (made ++ (id ∷ [])) = append_assoc kept made (id ∷ []) in
      record {
        live = subst (λ (l : List ℕ). AreLive t l) same (live-both t (kept ++ made) (id ∷ []) live (own, tt));
        once = subst (λ (l : List ℕ). AreOnce l) same (once-more id (kept ++ made) h.once apart);
      }

  pub put-loose : (s t : Shelf X) (id : ℕ) (kept made : List ℕ) → IsStocked s kept made → label_at s id ≡ None →
      ((y : ℕ) → y ≢ id → label_at t y ≡ label_at s y) → IsStocked t kept made
  put-loose s t id kept made h free others =
      let apart : IsNotIn id (kept ++ made) = free-not-in s id (kept ++ made) free h.live in
      record { live = live-same s t id (kept ++ made) others apart h.live; once = h.once }

  pub put-kept : (s t : Shelf X) (id : ℕ) (kept made : List ℕ) → IsStocked s kept made → label_at s id ≡ None →
      ((y : ℕ) → y ≢ id → label_at t y ≡ label_at s y) → shown t kept ≡ shown s kept
  put-kept s t id kept made h free others =
      shown-same s t id kept others (not-in-left id kept made (free-not-in s id (kept ++ made) free h.live))

  pub put-made : (s t : Shelf X) (id : ℕ) (x : X) (kept made : List ℕ) → IsStocked s kept made →
      label_at s id ≡ None → label_at t id ≡ Some x →
      ((y : ℕ) → y ≢ id → label_at t y ≡ label_at s y) → shown t (made ++ id ∷ []) ≡ shown s made ++ x ∷ []
  put-made s t id x kept made h free here others =
      let apart : IsNotIn id made = not-in-right id kept made (free-not-in s id (kept ++ made) free h.live) in
      shown-both t made (id ∷ [])
      ∙ ap (λ (l : List X). l ++ shown t (id ∷ [])) (shown-same s t id made others apart)
      ∙ ap (λ (l : List X). shown s made ++ l) (shown-cons t id [] x here)

  -- the list without the number at a place
  shown-less : (s : Shelf X) (ids : List ℕ) (i : ℕ) → AreLive s ids →
      shown s (take i ids ++ drop (suc i) ids) ≡ take i (shown s ids) ++ drop (suc i) (shown s ids)
  shown-less s [] zero h = refl
  shown-less s [] (suc i) h = refl
  shown-less s (id ∷ ids) zero h =
      let x = some-of (label_at s id) h.0 in
      ap (λ (l : List X). drop 1 l) (sym (shown-cons s id ids x.0 x.1))
  shown-less s (id ∷ ids) (suc i) h =
      let x = some-of (label_at s id) h.0 in
      shown-cons s id (take i ids ++ drop (suc i) ids) x.0 x.1
      ∙ ap (λ (l : List X). x.0 ∷ l) (shown-less s ids i h.1)
      ∙ ap (λ (l : List X). take (suc i) l ++ drop (suc (suc i)) l) (sym (shown-cons s id ids x.0 x.1))

  live-less : (s : Shelf X) (ids : List ℕ) (i : ℕ) → AreLive s ids → AreLive s (take i ids ++ drop (suc i) ids)
  live-less s [] zero h = tt
  live-less s [] (suc i) h = tt
  live-less s (id ∷ ids) zero h = h.1
  live-less s (id ∷ ids) (suc i) h = (h.0, live-less s ids i h.1)

  -- Taking a made label out keeps the invariant: its number stands in one place only, so without that place it is in neither list,
  -- and giving its cell back changes nothing that is seen of the others. `out-kept` and `out-made` then give the contract of
  -- `take_out`: the kept labels as before, and the made ones without that place.
  pub out-stocked : (s t : Shelf X) (kept made : List ℕ) (i id : ℕ) → IsStocked s kept made → i < length made →
      id ≡ slice_index_or made i id →
      ((y : ℕ) → y ≢ id → label_at t y ≡ label_at s y) → IsStocked t kept (take i made ++ drop (i + 1) made)
  out-stocked s t kept made i id h b is others =
      let apart : IsNotIn id kept = subst (λ (n : ℕ). IsNotIn n kept) (sym is) (apart-kept kept made i id h.once b) in
      let left : AreLive t kept = live-same s t id kept others apart (live-left s kept made h.live) in
      let rest : List ℕ = take i made ++ drop (suc i) made in
      let apart' : IsNotIn id rest = subst (λ (n : ℕ). IsNotIn n rest) (sym is) (apart-at made i id (once-right kept made h.once) b) in
      let right : AreLive t rest = live-same s t id rest others apart' (live-less s made i (live-right s kept made h.live)) in
      let all : IsStocked t kept rest = record { live = live-both t kept rest left right; once = once-both-less kept made i h.once } in
      rw add-one all

  pub out-kept : (s t : Shelf X) (kept made : List ℕ) (i id : ℕ) → IsStocked s kept made → i < length made → id ≡ slice_index_or made i id →
      ((y : ℕ) → y ≢ id → label_at t y ≡ label_at s y) → shown t kept ≡ shown s kept
  out-kept s t kept made i id h b is others =
      shown-same s t id kept others (subst (λ (n : ℕ). IsNotIn n kept) (sym is) (apart-kept kept made i id h.once b))

  pub out-made : (s t : Shelf X) (kept made : List ℕ) (i id : ℕ) → IsStocked s kept made → i < length made → id ≡ slice_index_or made i id →
      ((y : ℕ) → y ≢ id → label_at t y ≡ label_at s y) →
      shown t (take i made ++ drop (i + 1) made) ≡ take i (shown s made) ++ drop (i + 1) (shown s made)
  out-made s t kept made i id h b is others =
      let rest : List ℕ = take i made ++ drop (suc i) made in
      let apart : IsNotIn id rest = subst (λ (n : ℕ). IsNotIn n rest) (sym is) (apart-at made i id (once-right kept made h.once) b) in
      let e : shown t rest ≡ take i (shown s made) ++ drop (suc i) (shown s made) =
      shown-same s t id rest others apart ∙ shown-less s made i (live-right s kept made h.live) in
      rw add-one e

  -- what a push that may fail leaves
  pub push-stocked : (s t : Shelf X) (id : ℕ) (x : X) (kept made made' : List ℕ) (ok : Bool) → IsStocked s kept made →
      label_at s id ≡ None → label_at t id ≡ Some x →
      ((y : ℕ) → y ≢ id → label_at t y ≡ label_at s y) → made' ≡ (if ok then made ++ id ∷ [] else made) → IsStocked t kept made'
  push-stocked s t id x kept made made' true h free here others e =
      subst (λ (l : List ℕ). IsStocked t kept l) (sym e) (put-stocked s t id x kept made h free here others)
  push-stocked s t id x kept made made' false h free here others e =
      subst (λ (l : List ℕ). IsStocked t kept l) (sym e) (put-loose s t id kept made h free others)

  -- the second list behind the first
  pub all-kept : (s : Shelf X) (kept made : List ℕ) → IsStocked s kept made → IsStocked s (kept ++ made) []
  all-kept s kept made h =
      record {
        live = live-both s (kept ++ made) [] h.live tt;
        once =
            subst (λ (l : List ℕ). AreOnce l) (sym (append-none (kept ++ made))) h.once;
      }
