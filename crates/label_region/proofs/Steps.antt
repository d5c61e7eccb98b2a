-- Steps that the walks over the raw block share. Assumes `Logic`.
--     base_had, base_made, mark_had, mark_made      the pointer to a row, and an owner of no bytes, as machine values
--     take_out, put_in      one place leaves the row, and comes back
--     emptied, empty_row, row_room      what a place holds is forgotten; memory is a row of empty places; a row is memory
--     seen      one place of a row that is lent
use mathlib.Core.Path.{◌≡◌, refl, subst}
use Prim.Native.Nat.{ℕ, zero, suc, ◌+◌, ◌*◌, ◌<◌}
use native.Mathlib.Omega.{arith}
use native.Mathlib.Nat.{zero-mul, suc-mul}
use mathlib.Core.List.{List, [], ◌∷◌, ◌++◌}
use lib.ListN.{length, set, get_or, replicate}
use seplogic.Ra.Ura.{Ura}
use base.Fraction.{full_share}
use mir.Syntax.{ty_array}
use mir.Val.{Val, vstruct, vcons, vnil, of_list}
use base.Logic.{ent, sep, emp, via, snd∗, id⊢}
use base.Fml.{Fml, Lft, ftrue, fsep, fat, froom}
use types.Logic.{Logic, sem}
use types.Kit.{Item, Goal, Seq, Step, step, ‵, some, given, ◌⊛◌, ◌$◌, ◌∵◌, !, qed, by, move, keep, drop, use1, use2, pick, learn, split, fsplit, fjoin, fpick, fpack, feq_i, feq_l, rewrite, done}
use denote.RattleType.{RattleType, Valss}
use denote.Laws.{Is, shows}
use denote.Param.Laws.{param_laws}
use denote.RawPtr.{RawPtr, ptr_val}
use denote.Shadow.{makes_shadow}
use denote.Steps.{nothing, peeks}
use denote.Struct.Struct.{Struct, within}
use denote.Struct.Owning.{shape}
use denote.Struct.Declared as Declared
use Rattle.std.specs.Prelude.{Option, Some, None}
use Rattle.std.specs.Mem.{type_size}
use Rattle.core.proofs.mem.Param.{El, R, el_x, elτ, one}
use Rattle.core.proofs.ptr.Rows.{el_out}
use Rattle.std_alloc.proofs.RawLayout.{as_raw}
use Rattle.std_alloc.proofs.RcSteps.{Good, word}
use Rattle.label_region.specs.Ownership.{place_own, place_lent, row_own, row_lent}
use Rattle.label_region.specs.contracts.raw.Base as base-type
use Rattle.label_region.specs.contracts.raw.Cells as cells-type

module _ (E : El) where
  abbrev pub Cr : RattleType
  Cr = cells-type.the_row (R E)

  abbrev pub Br : RattleType
  Br = base-type.the_row (R E)

  -- the data field of `Cells` and `Deed`
  abbrev pub Mark : RattleType
  Mark = Struct (shape (cells-type.the_type (R E)))

  abbrev pub width : ℕ
  width = type_size (R E)

  abbrev pub Place : Type 0
  Place = Option (el_x E)

-- the machine value of an owner of no bytes
abbrev pub mark : Val
mark = vstruct (vcons (vstruct vnil) vnil)

module _ (E : El) {M : Type 1} {𝓤 : Ura M} (𝓛 : Logic 𝓤) where
  pub mark_made : ent 𝓤 (emp 𝓤) (sem 𝓛 ((Mark E).own_val (tt, tt) (mark ∷ [])))
  mark_made = makes_shadow 𝓛 ((Mark E).own_val (tt, tt) (mark ∷ [])) (λ vss. (tt, ((λ uss. (tt, tt)), tt)))
      ((vstruct vnil ∷ [], tt), (refl, ((tt, (refl, tt)), tt)))

module _ (E : El) {M : Type 1} {𝓤 : Ura M} {𝓛 : Logic 𝓤} {K : Type 0} {Γ : List (Item 𝓤)} {G : Goal 𝓤 𝓛.H} where
  pub mark_had : K → (vs : List Val) → (vs ≡ mark ∷ [] → Seq K 𝓛 Γ G) → Seq K 𝓛 (‵ ((Mark E).own_val (tt, tt) vs) ∷ Γ) G
  mark_had t vs k =
      fpick t (λ vss. fsplit t $ feq_l t (λ outer. fsplit t $ fpick t (λ uss. fsplit t $ feq_l t (λ inner. drop t $ drop t $
      k (subst (λ (ws : List Val). vs ≡ vstruct (of_list (ws ++ [])) ∷ []) inner outer)))))

  pub base_had : K → (base : (Br E).Denot) (vs : List Val) → (vs ≡ word base.ptr ∷ [] → Seq K 𝓛 Γ G) →
      Seq K 𝓛 (‵ ((Br E).own_val base vs) ∷ Γ) G
  base_had t base vs k =
      fpick t (λ vss. fsplit t $ feq_l t (λ outer. fsplit t $ feq_l t (λ inner. drop t $
      k (subst (λ (ws : List Val). vs ≡ vstruct (of_list (ws ++ [])) ∷ []) inner outer))))

  pub base_made : K → (base : (Br E).Denot) → Step K 𝓛 (‵ ((Br E).own_val base (word base.ptr ∷ [])) ∷ Γ) G Γ G
  base_made t base = step (λ s.
      nothing t $ feq_i t (List Val) (ptr_val base.ptr ∷ []) (ptr_val base.ptr ∷ []) refl $ fjoin t $
      feq_i t (List Val) (word base.ptr ∷ []) (word base.ptr ∷ []) refl $ fjoin t $
      fpack t (Valss (RawPtr ∷ [])) (within (Declared.shape (base-type.the_type (R E))) (base.ptr, tt) (word base.ptr ∷ []))
      (ptr_val base.ptr ∷ [], tt) $ s)

  -- a label is stored as one machine value, of its type
  pub label_had : K → (x : el_x E) (vs : List Val) →
      ((v : Val) → vs ≡ v ∷ [] → Good (elτ E) v → Seq K 𝓛 (‵ ((R E).own_val x (v ∷ [])) ∷ Γ) G) → Seq K 𝓛 (‵ ((R E).own_val x vs) ∷ Γ) G
  label_had t x vs k =
      peeks t (R E) (Is (R E)) (shows 𝓛 (R E)) x vs (λ is.
      let v = one E vs (((param_laws 0 E.row E.laws).lawful 𝓛).typed x vs is) in
      rewrite t 0 (λ (us : List Val). ‵ ((R E).own_val x us)) v.1 refl $ k v.0 v.1 v.2)

module _ (E : El) {M : Type 1} {𝓤 : Ura M} (𝓛 : Logic 𝓤) (b : ℕ) where
  open 𝓛 use {H}

  abbrev w : ℕ
  w = width E

  abbrev Row : ℕ → List (Place E) → Fml
  Row = row_own (R E) b

  -- the row but for its i-th place
  abbrev pub Rest : ℕ → List (Place E) → ℕ → Fml
  Rest o [] i = ftrue
  Rest o (p ∷ ps) zero = Row (o + w) ps
  Rest o (p ∷ ps) (suc i) = fsep (place_own (R E) b o p) (Rest (o + w) ps i)

  -- From a row one place is taken out and the rest of the row is kept beside it, so that a walk over the machine's steps has exactly
  -- the bytes that it reads or writes. The place's address is given as its index times the width of a label and the row's first
  -- byte, as the machine reckons it; the proof goes down the row, and each place passed adds one width. `put_in` is the way back,
  -- with whatever the place holds then.
  pub take_out : (ps : List (Place E)) (i o at : ℕ) → i < length ps → at ≡ i * w + o
      → ent 𝓤 (sem 𝓛 (Row o ps)) (sep 𝓤 (sem 𝓛 (place_own (R E) b at (get_or ps i None))) (sem 𝓛 (Rest o ps i)))
  take_out [] i o at lt e = absurd (omega arith)
  take_out (p ∷ ps) zero o at lt e =
      let same : o ≡ at = omega (arith, zero-mul w) in
      qed 𝓛 (‵ (Row o (p ∷ ps)) ∷ []) ∵ fsplit ! $ rewrite ! 0 (λ (k : ℕ). ‵ (place_own (R E) b k p)) same refl $ done !
  take_out (p ∷ ps) (suc i) o at lt e =
      qed 𝓛 (‵ (Row o (p ∷ ps)) ∷ []) ∵ fsplit ! $ move ! (1 ∷ []) $
      use1 𝓛 (‵ (place_own (R E) b at (get_or ps i None)) ⊛ ‵ (Rest (o + w) ps i))
      (take_out ps i (o + w) at (omega arith) (omega (arith, suc-mul i w))) $
      split ! $ move ! (2 ∷ 1 ∷ []) $ fjoin ! $ move ! (1 ∷ []) $ done !

  pub put_in : (ps : List (Place E)) (i o at : ℕ) (p : Place E) → i < length ps → at ≡ i * w + o
      → ent 𝓤 (sep 𝓤 (sem 𝓛 (place_own (R E) b at p)) (sem 𝓛 (Rest o ps i))) (sem 𝓛 (Row o (set ps i p)))
  put_in [] i o at p lt e = absurd (omega arith)
  put_in (q ∷ ps) zero o at p lt e =
      let same : at ≡ o = omega (arith, zero-mul w) in
      qed 𝓛 (‵ (place_own (R E) b at p) ∷ ‵ (Row (o + w) ps) ∷ []) ∵ rewrite ! 0 (λ (k : ℕ). ‵ (place_own (R E) b k p)) same refl $
      fjoin ! $ done !
  put_in (q ∷ ps) (suc i) o at p lt e =
      qed 𝓛 (‵ (place_own (R E) b at p) ∷ ‵ (fsep (place_own (R E) b o q) (Rest (o + w) ps i)) ∷ []) ∵ move ! (1 ∷ []) $
      fsplit ! $ move ! (2 ∷ 1 ∷ []) $
      use2 𝓛 (‵ (Row (o + w) (set ps i p))) (put_in ps i (o + w) at p (omega arith) (omega (arith, suc-mul i w))) $
      move ! (1 ∷ 0 ∷ []) $ fjoin ! $ done !

  -- A place that holds a label is room for one: labels are copied and never dropped, so what stood there may be forgotten and its
  -- bytes are raw memory again. Therefore a write need not ask what the place held, and `deallocate` need not go through the places.
  pub emptied : (p : Place E) (o : ℕ) → ent 𝓤 (sem 𝓛 (place_own (R E) b o p)) (sem 𝓛 (place_own (R E) b o None))
  emptied None o = id⊢ 𝓤 (sem 𝓛 (place_own (R E) b o None))
  emptied (Some x) o =
      qed 𝓛 (‵ (place_own (R E) b o (Some x)) ∷ []) ∵
      use1 𝓛 (some (λ (v : Val). given (Good (elτ E) v) (‵ (fat full_share (elτ E) b o v) ⊛ ‵ (E.row.own_val x (v ∷ [])))))
      (el_out (record { row = E.row; laws = E.laws }) 𝓛 full_share x b o) $
      pick ! (λ v. learn ! (λ good. split ! $ use1 𝓛 (‵ (froom (elτ E) b o)) (𝓛.laws.at_room (elτ E) b o v) $ as_raw ! (elτ E) b o $
      keep ! (0 ∷ []) $ done !))

  -- Memory for n labels is a row of n empty places: the room of an array is that of its first element and of the others, and an
  -- empty place is such room. The induction is over n with any first byte. `row_room` is the way back for a row of any places, once
  -- each is emptied; by the two memory from the allocator becomes a row in `allocate`, and the row becomes memory in `deallocate`.
  pub empty_row : (n o : ℕ) → ent 𝓤 (H.room (ty_array (elτ E) n) b o) (sem 𝓛 (Row o (replicate n None)))
  empty_row zero o = qed 𝓛 (‵ (froom (ty_array (elτ E) 0) b o) ∷ []) ∵ keep ! [] $ done !
  empty_row (suc n) o =
      qed 𝓛 (‵ (froom (ty_array (elτ E) (suc n)) b o) ∷ []) ∵
      use1 𝓛 (‵ (froom (elτ E) b o) ⊛ ‵ (froom (ty_array (elτ E) n) b (o + w))) (𝓛.laws.room_uncons (elτ E) n b o) $ split ! $
      as_raw ! (elτ E) b o $ move ! (1 ∷ []) $ use1 𝓛 (‵ (Row (o + w) (replicate n None))) (empty_row n (o + w)) $
      move ! (1 ∷ 0 ∷ []) $ fjoin ! $ done !

  pub row_room : (ps : List (Place E)) (o : ℕ) → ent 𝓤 (sem 𝓛 (Row o ps)) (H.room (ty_array (elτ E) (length ps)) b o)
  row_room [] o = 𝓛.laws.room_nil (elτ E) b o
  row_room (p ∷ ps) o =
      qed 𝓛 (‵ (Row o (p ∷ ps)) ∷ []) ∵ fsplit ! $ use1 𝓛 (‵ (place_own (R E) b o None)) (emptied p o) $
      use1 𝓛 (‵ (froom (elτ E) b o)) (𝓛.laws.raw-room (elτ E) b o) $ move ! (1 ∷ []) $
      use1 𝓛 (‵ (froom (ty_array (elτ E) (length ps)) b (o + w))) (row_room ps (o + w)) $ move ! (1 ∷ 0 ∷ []) $
      by ! (𝓛.laws.room_cons (elτ E) (length ps) b o)

  -- Of a row that is lent each place is lent: what is lent may be dropped, so the other places are left out of account, and nothing
  -- has to be put back, unlike in `take_out`. `get` hands out the reference to a label by it.
  pub seen : (κ : Lft) (ps : List (Place E)) (i o at : ℕ) → i < length ps → at ≡ i * w + o
      → ent 𝓤 (sem 𝓛 (row_lent (R E) b o ps κ)) (sem 𝓛 (place_lent (R E) b at (get_or ps i None) κ))
  seen κ [] i o at lt e = absurd (omega arith)
  seen κ (p ∷ ps) zero o at lt e =
      let same : o ≡ at = omega (arith, zero-mul w) in
      qed 𝓛 (‵ (row_lent (R E) b o (p ∷ ps) κ) ∷ []) ∵ fsplit ! $ keep ! (0 ∷ []) $
      rewrite ! 0 (λ (k : ℕ). ‵ (place_lent (R E) b k p κ)) same refl $ done !
  seen κ (p ∷ ps) (suc i) o at lt e =
      via 𝓤 (sem 𝓛 (row_lent (R E) b (o + w) ps κ)) (snd∗ 𝓤 (sem 𝓛 (place_lent (R E) b o p κ)) (sem 𝓛 (row_lent (R E) b (o + w) ps κ)))
      (seen κ ps i (o + w) at (omega arith) (omega (arith, suc-mul i w)))

-- a place that holds a label is one of the row
pub filled_within : {X : Type 0} (ps : List (Option X)) (i : ℕ) (x : X) → get_or ps i None ≡ Some x → i < length ps
filled_within [] i x holds = cc
filled_within (p ∷ ps) zero x holds = omega arith
filled_within (p ∷ ps) (suc i) x holds = omega (arith, filled_within ps i x holds)
