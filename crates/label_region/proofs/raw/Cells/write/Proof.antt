-- `write` fills a place, and forgets what was there. Assumes `Logic`.
use mathlib.Core.Path.{◌≡◌, refl, sym, subst, ◌∙◌}
use Prim.Native.Nat.{ℕ, ◌+◌, ◌*◌, ◌<◌, ◌^◌}
use native.Mathlib.Omega.{arith}
use mathlib.Core.List.{List, [], ◌∷◌, ◌++◌}
use lib.ListN.{length, set, get_or, length-set}
use seplogic.Ra.Ura.{Ura}
use base.Fraction.{full_share}
use mir.Syntax.{Fn, named, w64}
use mir.MapTy.{inst_fn}
use mir.Val.{Val, vptr, vint, vunit}
use base.Logic.{SProp, ent, never, id⊢}
use base.Fml.{Lft, GName, Share, ftrue, fat, flft, fobs, fbor}
use prog.Memory.{Memory}
use prog.Routine.{Routine}
use prog.Wp.{Env, Calls, Loops, WpFn}
use types.Logic.{Logic}
use types.SemTy.{Body as Borrowed}
use contract.Monad.{Fun, fact}
use contract.BorrowLft.{◌⊑◌}
use contract.Running.{tables}
use types.Kit.{Item, ⋆, ‵, raw, ◌⊛◌, at_ret, ◌$◌, ◌∵◌, !, qed, by, move, keep, use1, use2, split, join, rewrite, fsplit, fsplit3, fjoin, fjoin3, feq_i, feq_l, flt_i, flt_l, suffices, frame, done}
use types.Part.{whole, sub}
use types.Run.{init, stop, fld, unit_lit, of_opd, bin, size_lit, assigns_last, first, blocks, exec, returns, enter}
use types.ByLocal.{alloc_all, pass_all, free_all, look_at, get, get_in, through, sets, take_at, give_at, env}
use denote.Builtin.{usize}
use denote.Exit.{yes, no}
use denote.RattleType.{owns}
use denote.Memory.{mem}
use denote.Param.{layout}
use denote.RawPtr.{Ptr, in_a_block}
use denote.Ref.{MutBor, MutRef}
use denote.Signature.{plain}
use denote.Steps.{nothing, opens, closes, heard}
use denote.Triple.Clauses.{Clauses, Ended}
use denote.Triple.Walked.{says, Stays, stay_dropped, stay_ref, walk_of, ends_at, Goes-dropped, Goes-ref}
use Rattle.std.specs.Prelude.{Some, None}
use Rattle.std.proofs.raw_atomic.Walks.{proved_at}
use Rattle.core.proofs.mem.Param.{El, R, args, elτ}
use Rattle.core.proofs.ptr.Rows.{times_below, one_below, el_in}
use Rattle.std_alloc.proofs.RawLayout.{as_written}
use Rattle.std_alloc.proofs.RcSteps.{Good, word, word-Good}
use Rattle.std_alloc.proofs.VecSteps.Shapes.{after}
use Rattle.label_region.specs.Ownership.{place_own, row_own, places_own}
use Rattle.label_region.proofs.Steps.{Cr, Br, width, base_had, label_had, Rest, take_out, put_in, emptied}
use Rattle.label_region.specs.contracts.raw.Cells.write as F
use Rattle.label_region.specs.contracts.raw.Cells.write.Key.{name as #self}
use Rattle.label_region.proofs.raw.Cells.write.Statement.{statement}
use Rattle.label_region.proofs.raw.Cells.write.Code as code

module _ (E : El) where
  abbrev function : Fn
  function = inst_fn (args E) code.function

  abbrev ended : Ended
  ended = F.ended E.row

  abbrev stayed : Stays ended.signature.params ended.kept
  stayed = (
    stay_ref (0 ∷ []) tt
        (plain (λ _. Cr E)),
    (stay_dropped (plain (λ _. Br E)) no, (stay_dropped (plain (λ _. usize)) yes, (stay_dropped (plain (λ _. R E)) no, tt))),
  )

  abbrev Asks : (Cr E).Denot → (Br E).Denot → ℕ → Type 0
  Asks d base index = (base.ptr ≡ d.at) × (index < length d.slots)

module _ (E : El) {M : Type 1} {𝓤 : Ura M} (𝓛 : Logic 𝓤) (at_mem : Memory → SProp 𝓤) (run : Routine → Fun 𝓤)
    (C : Calls 𝓤 𝓛.H) (Λ : Loops 𝓤 𝓛.H)
    (κ κ₁ : Lft) (q q₁ : Share) (short : κ ⊑ κ₁) (rb ro : ℕ) (γ : GName) (d : (Cr E).Denot) (base : (Br E).Denot) (index : ℕ)
    (item : (R E).Denot) (us0 us1 us2 us3 : List Val) where
  open 𝓛 use {H}

  abbrev clauses : Clauses 𝓤 (ended E)
  clauses = F.clauses E.row 𝓛 at_mem run

  abbrev self : MutBor (Cr E).Denot
  self = record { ref_ptr = (rb, ro); ghost_name = γ; now = d }

  abbrev bound : (walk_of 𝓛 (ended E) (stayed E) clauses).Ghost
  bound = (((κ, (κ₁, tt)), (q, (q₁, tt)), (short, tt), (self, (base, (index, (item, tt)))), (us0, (us1, (us2, (us3, tt))))), tt)

  abbrev Post : Val → SProp 𝓤
  Post = (walk_of 𝓛 (ended E) (stayed E) clauses).post bound

  abbrev new : (Cr E).Denot
  new = record { mark = d.mark; at = d.at; slots = set d.slots index (Some item) }

  abbrev others : Item 𝓤
  others = ‵ (flft κ₁ q₁) ⊛ ‵ ftrue

  abbrev Borrow : Item 𝓤
  Borrow = ‵ (fbor κ (Borrowed (mem (Cr E)) rb ro γ))

  -- The way out: the borrow of the cells is closed, what it will show its lender is the row with the new label, and the lifetimes
  -- come back.
  exits : us0 ≡ vptr rb ro ∷ [] → ent 𝓤 (⋆ 𝓛 (‵ (fobs γ ((Cr E).coded.code new)) ∷ Borrow ∷ ‵ (flft κ q) ∷ others ∷ [])) (Post vunit)
  exits passed =
      qed 𝓛 (‵ (fobs γ ((Cr E).coded.code new)) ∷ Borrow ∷ ‵ (flft κ q) ∷ others ∷ []) ∵
      suffices ! _ (ends_at 𝓛 (ended E) (stayed E) clauses bound vunit tt (new, (tt, (tt, (tt, tt)))) (tt, (tt, (tt, (tt, tt))))) $
      says ! (refl, refl) $
      move ! (2 ∷ 3 ∷ []) $ join ! $ frame ! $ feq_i ! (List Val) us0 (vptr rb ro ∷ []) passed $ fjoin3 ! $
      nothing ! $ nothing ! $ fjoin ! $ nothing ! $ fjoin ! $ nothing ! $ fjoin ! $ move ! (1 ∷ 0 ∷ []) $ fjoin ! $
      feq_i ! (List Val) (vunit ∷ []) (vunit ∷ []) refl $ move ! (1 ∷ 0 ∷ []) $ done !

  abbrev Had : Val → List (Item 𝓤)
  Had v = ‵ (fobs γ ((Cr E).coded.code d)) ∷ Borrow ∷ ‵ (flft κ q) ∷ ‵ ((R E).own_val item (v ∷ [])) ∷ others ∷ []

  -- The walk over the machine's steps. The borrow is opened, so that the row is owned for the time of the call; the address is
  -- reckoned as in `get`. The place at the index is taken out of the row and emptied, as a label that stood there is forgotten; its
  -- bytes are written, and the label passed is moved in, so that the place owns what the label owns. Put back (`put_in`) it makes
  -- the row that has the new label at the index, of the same length and hence within the same bound, and with this row the borrow is
  -- closed.
  walk : us0 ≡ vptr rb ro ∷ [] → Asks E d base index → index < 2 ^ 64 → (v : Val) → Good (elτ E) v
      → ent 𝓤 (⋆ 𝓛 (Had v)) (WpFn 𝓤 H C Λ (function E) (vptr rb ro ∷ word base.ptr ∷ vint w64 index ∷ v ∷ []) Post)
  walk passed asked fits v good =
      let inside = asked.1 in let s = width E in
      qed 𝓛 (Had v) ∵ enter ! C Λ (function E) (vptr rb ro ∷ word base.ptr ∷ vint w64 index ∷ v ∷ []) _ $
      alloc_all ! (λ l. pass_all ! refl ((tt, tt), (word-Good [] base.ptr, ((tt, record { fits = fits }), (good, tt)))) $
      let En : Env 𝓤 H = env (function E).locals l in
      opens ! tt (Cr E) {h = d} rb ro (λ vs. move ! (1 ∷ []) $ fsplit ! $ move ! (1 ∷ []) $
      in_a_block ! d.at (λ p. places_own (R E) p d.slots) (id⊢ 𝓤 (never 𝓤)) (λ b o e. fsplit ! $ flt_l ! (λ small.
      let narrow : s < 2 ^ 64 = omega (arith, one_below (length d.slots) s (2 ^ 63) (omega arith) small) in
      let far : index * s < 2 ^ 64 = omega (arith, times_below index (length d.slots) s (2 ^ 63) (omega arith) small) in
      let at : ℕ = index * s + o in
      -- the address of the place
      take_at ! 2 $ rewrite ! 0 (λ (p : Ptr). ‵ (fat full_share (layout (Br E)) (l 2) 0 (word p))) (asked.0 ∙ e) refl $
      give_at ! 2 $ first ! $ blocks ! $
      sets ! (bin ! (get ! refl) (size_lit ! (record { fits = narrow })) (record { fits = far })) refl (tt, record { fits = far }) $
      sets ! (bin ! (get_in ! (fld ! refl (stop !)) (sub ! 0 refl (whole !))) (get ! refl) tt) refl (tt, tt) $
      -- the place, whatever it held, is room for the label
      use1 𝓛 (‵ (place_own (R E) b at (get_or d.slots index None)) ⊛ ‵ (Rest E 𝓛 b o d.slots index))
      (take_out E 𝓛 b d.slots index o at inside refl) $ split ! $
      use1 𝓛 (‵ (place_own (R E) b at None)) (emptied E 𝓛 b (get_or d.slots index None) at) $ as_written ! (elτ E) b at $
      -- [the room; the other places; the mark; its cell; the open borrow; obs; auth; what the label owns; ..]
      sets ! (of_opd ! (get ! refl)) refl good $ assigns_last ! (of_opd ! (get ! refl)) (through ! refl (stop !)) (init ! 0 refl good) $
      exec ! C Λ En (after 1 (function E).body) (at_ret En Post) $ sets ! (of_opd ! (unit_lit !)) refl (tt, tt) $
      move ! (0 ∷ 7 ∷ []) $ use2 𝓛 (‵ (place_own (R E) b at (Some item)))
      (el_in (record { row = E.row; laws = E.laws }) 𝓛 full_share item b at v) $
      use2 𝓛 (‵ (row_own (R E) b o new.slots)) (put_in E 𝓛 b d.slots index o at (Some item) inside refl) $
      flt_i ! (length new.slots * s) (2 ^ 63) (subst (λ k. k * s < 2 ^ 63) (sym (length-set d.slots index (Some item))) small) $ fjoin ! $
      rewrite ! 0 (λ (p : Ptr). ‵ (places_own (R E) p new.slots)) (sym e) refl $ move ! (1 ∷ 0 ∷ []) $ fjoin ! $ move ! (1 ∷ 0 ∷ []) $
      closes ! tt (Cr E) new vs rb ro $
      returns ! (look_at ! 0 refl) $ free_all ! refl $ keep ! (0 ∷ 1 ∷ 2 ∷ 3 ∷ []) $ by ! (exits passed)))))

  -- From what the contract asks to the walk: the facts are heard, and the values passed are the borrow, the pointer, the index, and
  -- the label as one machine value of its type (`label_had`).
  entry : ent 𝓤 ((walk_of 𝓛 (ended E) (stayed E) clauses).pre bound) (WpFn 𝓤 H C Λ (function E) (us0 ++ (us1 ++ (us2 ++ (us3 ++ [])))) Post)
  entry =
      qed 𝓛 (((‵ (flft κ q) ⊛ others) ⊛ ‵
      (owns (MutRef (named 0) κ (Cr E) ∷ Br E ∷ usize ∷ R E ∷ []) (self, (base, (index, (item, tt)))) (us0, (us1, (us2, (us3, tt)))))) ∷
      (raw (fact 𝓤 (κ₁ ⊑ E.row.lives)) ⊛ raw (fact 𝓤 (Asks E d base index))) ∷ []) ∵
      move ! (1 ∷ []) $ split ! $ heard ! _ (λ outlives. heard ! _ (λ asked. split ! $ split ! $ move ! (2 ∷ []) $
      fsplit ! $ fsplit3 ! $ feq_l ! (λ e0. move ! (2 ∷ []) $ fsplit ! $ base_had E ! base us1 (λ e1.
      fsplit ! $ fsplit ! $ feq_l ! (λ e2. flt_l ! (λ fits. fsplit ! $ label_had E ! item us3 (λ v e3 good.
      keep ! (2 ∷ 3 ∷ 4 ∷ 0 ∷ 5 ∷ []) $
      by ! (subst (λ (ws : List Val × List Val × List Val × List Val). ent 𝓤 (⋆ 𝓛 (Had v))
      (WpFn 𝓤 H C Λ (function E) (ws.0 ++ (ws.1 ++ (ws.2 ++ (ws.3 ++ [])))) Post))
      (λ j. (sym e0 j, sym e1 j, sym e2 j, sym e3 j)) (walk e0 asked fits v good)))))))))

-- `Cells.write` keeps its contract for each kind of label: the triple of the body is `entry`. The label passed is owned by the row
-- afterwards, and the borrow has told its lender the new row, so that the caller knows each place.
pub write_spec : {M : Type 1} → statement M
write_spec 𝓤 𝓛 𝓜 𝓡 wired X LX =
    let E : El = record { row = X; laws = LX } in let 𝓣 = tables 𝓤 𝓛.H 𝓜 𝓡 𝓡.env in
    proved_at 𝓛 (ended E) (stayed E) (F.clauses X 𝓛 𝓜.mem 𝓡.returns) 𝓜 𝓡 (
      Goes-ref 𝓛 2 0 tt (plain (λ _. Cr E)),
      (
        Goes-dropped 𝓛 2 (plain (λ _. Br E)) no
            (λ κs x f. refl),
        (Goes-dropped 𝓛 2 (plain (λ _. usize)) yes (λ κs x f. refl), (Goes-dropped 𝓛 2 (plain (λ _. R E)) no (λ κs x f. refl), tt)),
      ),
    )
    (#self (args E)) (function E) (code.unfolded 𝓤 𝓛.H 𝓜 𝓡 wired (X, tt))
    (λ y are. let κs = y.0.0 in let qs = y.0.1 in let a = y.0.3 in let vss = y.0.4 in
    entry E 𝓛 𝓜.mem 𝓡.returns 𝓣.C 𝓣.Λ κs.0 κs.1.0 qs.0 qs.1.0 y.0.2.0 a.0.ref_ptr.0 a.0.ref_ptr.1 a.0.ghost_name a.0.now a.1.0 a.1.1.0
    a.1.1.1.0 vss.0 vss.1.0 vss.1.1.0 vss.1.1.1.0)
