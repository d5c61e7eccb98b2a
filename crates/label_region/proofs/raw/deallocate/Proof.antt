-- `deallocate` forgets what the places hold, and hands their memory back with the right to do so. Assumes `Logic`.
use mathlib.Core.Path.{◌≡◌, refl, sym, ap, subst, ◌∙◌}
use Prim.Native.Nat.{ℕ, ◌*◌, ◌<◌, ◌^◌}
use native.Mathlib.Omega.{arith}
use mathlib.Core.List.{List, [], ◌∷◌, ◌++◌}
use lib.ListN.{length}
use lib.Dec.{T}
use seplogic.Ra.Ura.{Ura}
use mir.Syntax.{Fn, named, w64, ty_unit, ty_array}
use mir.MapTy.{inst_fn}
use mir.Val.{Val, vptr, vint, vunit, has_ty, WT}
use base.Logic.{SProp, ent, never, id⊢}
use base.Fml.{Lft, Share, Incl-trans, ftrue, froom, flft}
use prog.Memory.{Memory, align, capped}
use prog.Capped.{capped_fits}
use prog.Routine.{Routine}
use prog.Wp.{Env, Calls, Loops, WpFn}
use types.Logic.{Logic}
use sound.WpLaws.{FmC, fm_of}
use contract.Monad.{Fun, fact}
use contract.BorrowLft.{◌⊑◌}
use contract.Running.{tables, tables_of}
use types.Kit.{Item, ⋆, ‵, raw, ◌⊛◌, given, later, await, learn, at_ret, ◌$◌, ◌∵◌, !, qed, by, move, keep, use1, split, join, group, rewrite, fsplit, fsplit3, fjoin, feq_i, feq_l, flt_l, suffices, done}
use types.Part.{whole, sub}
use types.Run.{stop, fld, bin, unit_lit, of_opd, size_word, align_word, and_then, no_more, first, blocks, exec, returns, enter}
use types.ByLocal.{alloc_all, pass_all, free_all, look_at, get, get_in, sets, is, lands_last, env}
use denote.Builtin.{usize, RefOf}
use denote.Exit.{yes, no}
use denote.RattleType.{RattleType, owns}
use denote.Memory.{hidden_shr}
use denote.RawPtr.{Ptr, ptr_val, in_a_block}
use denote.Ref.{Bor, ShrRef}
use denote.Signature.{plain}
use denote.Steps.{nothing, heard}
use denote.Triple.Call.{calls_at_last}
use denote.Triple.Clauses.{Clauses, Ended}
use denote.Triple.Statement.{Triple}
use denote.Triple.Walked.{Stays, stay_dropped, walk_of, ends_at, Goes-dropped}
use Rattle.std.proofs.raw_atomic.Walks.{proved_at}
use Rattle.core.proofs.alloc.Calls.{Al, token, gives_key, Gives, at_gives, Gives-goes, Gives-Gives, Goes-blank}
use Rattle.core.proofs.mem.Param.{El, R, elτ}
use Rattle.core.proofs.slots.Leases.{uncapped, block_ty, block_size, block_align, args, P}
use Rattle.std_alloc.proofs.RawLayout.{as_raw}
use Rattle.std_alloc.proofs.RcSteps.{word, word-Good}
use Rattle.std_alloc.proofs.VecSteps.Shapes.{after}
use Rattle.label_region.specs.Ownership.{places_own, deed_owns}
use Rattle.label_region.proofs.Steps.{Cr, Br, width, mark, mark_had, base_had, row_room}
use Rattle.label_region.specs.contracts.raw.Deed as deed-type
use Rattle.label_region.specs.contracts.raw.deallocate as F
use Rattle.label_region.specs.contracts.raw.deallocate.Key.{name as #self}
use Rattle.label_region.proofs.raw.deallocate.Statement.{statement}
use Rattle.label_region.proofs.raw.deallocate.Code as code

module _ (E : El) (Z : Al) where
  abbrev function : Fn
  function = inst_fn (args E Z) code.function

  abbrev ended : Ended
  ended = F.ended E.row Z.row Z.g Z.d Z.drops

  abbrev Dr : RattleType
  Dr = deed-type.the_row (R E) (P E Z) Z.g

  abbrev stayed : Stays ended.signature.params ended.kept
  stayed = (
    stay_dropped (RefOf (0 ∷ []) tt (plain (λ _. P E Z)) (λ _. tt)) yes,
    (
      stay_dropped (plain (λ _. Br E))
          no,
      (stay_dropped (plain (λ _. usize)) yes, (stay_dropped (plain (λ _. Cr E)) no, (stay_dropped (plain (λ _. Dr)) no, tt))),
    ),
  )

  abbrev Asks : Z.row.Denot → (Br E).Denot → ℕ → (Cr E).Denot → Dr.Denot → Type 0
  Asks a base len cells deed =
      (cells.at ≡ base.ptr) × (length cells.slots ≡ len) × (deed.at ≡ base.ptr) × (deed.len ≡ len) × (deed.alloc ≡ a)

module _ (E : El) (Z : Al) {M : Type 1} {𝓤 : Ura M} (𝓛 : Logic 𝓤) (at_mem : Memory → SProp 𝓤) (run : Routine → Fun 𝓤) (C : Calls 𝓤 𝓛.H)
    (Λ : Loops 𝓤 𝓛.H) (fm : FmC 𝓤 𝓛.H 𝓛.laws C)
    (callee : Triple 𝓤 (C (gives_key Z)) (Gives Z 𝓛 at_mem run)) (κ κ₁ κ₂ : Lft) (q q₁ q₂ : Share) (short : κ ⊑ κ₂) (rb ro : ℕ)
    (a : Z.row.Denot) (base : (Br E).Denot) (len : ℕ) (cells : (Cr E).Denot) (deed : (Dr E Z).Denot)
    (us0 us1 us2 us3 us4 : List Val) where
  open 𝓛 use {H}

  abbrev clauses : Clauses 𝓤 (ended E Z)
  clauses = F.clauses E.row Z.row Z.g Z.d Z.drops 𝓛 at_mem run

  abbrev self : Bor Z.row.Denot
  self = record { ref_ptr = (rb, ro); now = a }

  abbrev bound : (walk_of 𝓛 (ended E Z) (stayed E Z) clauses).Ghost
  bound = (
    (
      (κ, (κ₁, (κ₂, tt))),
      (q, (q₁, (q₂, tt))),
      (short, tt),
      (self, (base, (len, (cells, (deed, tt))))),
      (us0, (us1, (us2, (us3, (us4, tt))))),
    ),
    tt,
  )

  abbrev Post : Val → SProp 𝓤
  Post = (walk_of 𝓛 (ended E Z) (stayed E Z) clauses).post bound

  abbrev others : Item 𝓤
  others = ‵ (flft κ₁ q₁) ⊛ ‵ (flft κ₂ q₂) ⊛ ‵ ftrue

  -- The way out: nothing is answered but the unit value, and of what was passed only the lifetimes come back. The row and the deed
  -- are not among it, since the allocator took them.
  exits : ent 𝓤 (⋆ 𝓛 (‵ (flft κ q) ∷ others ∷ [])) (Post vunit)
  exits =
      qed 𝓛 (‵ (flft κ q) ∷ others ∷ []) ∵
      suffices ! _ (ends_at 𝓛 (ended E Z) (stayed E Z) clauses bound vunit tt (tt, (tt, (tt, (tt, (tt, tt)))))
      (tt, (tt, (tt, (tt, (tt, tt)))))) $
      join ! $ feq_i ! (List Val) (vunit ∷ []) (vunit ∷ []) refl $
      nothing ! $ nothing ! $ fjoin ! $ nothing ! $ fjoin ! $ nothing ! $ fjoin ! $ nothing ! $ fjoin ! $ nothing ! $ fjoin ! $ join ! $
      move ! (1 ∷ 0 ∷ []) $ join ! $ nothing ! $ move ! (1 ∷ 0 ∷ []) $ done !

  abbrev Had : List (Item 𝓤)
  Had = ‵ (places_own (R E) cells.at cells.slots) ∷ ‵ (deed_owns (R E) (token Z deed.alloc) deed.at deed.len)
      ∷ ‵ (hidden_shr (P E Z) κ a rb ro) ∷ ‵ (flft κ q) ∷ others ∷ []

  -- The walk over the machine's steps. The contract asks that cells, deed, pointer, count and allocator are of one row: so the
  -- places that the cells own lie at the pointer, and the deed's token is for these bytes and of this allocator. The places are
  -- emptied and are the memory of an array again (`row_room`), whatever they held; memory and token are what the allocator's
  -- `deallocate` takes. The bytes are the count times the width, which does not overflow as a row takes fewer than 2^63 of them.
  walk : κ₂ ⊑ Z.row.lives → Asks E Z a base len cells deed → len < 2 ^ 64 →
      ent 𝓤 (⋆ 𝓛 Had) (WpFn 𝓤 H C Λ (function E Z) (vptr rb ro ∷ word base.ptr ∷ vint w64 len ∷ mark ∷ mark ∷ []) Post)
  walk outlives asked fits =
      qed 𝓛 Had ∵ enter ! C Λ (function E Z) (vptr rb ro ∷ word base.ptr ∷ vint w64 len ∷ mark ∷ mark ∷ []) _ $
      alloc_all ! (λ l. pass_all ! refl
      ((tt, tt), (word-Good [] base.ptr, ((tt, record { fits = fits }), ((tt, (tt, tt)), ((tt, (tt, tt)), tt))))) $
      let En : Env 𝓤 H = env (function E Z).locals l in
      let s = width E in let al : ℕ = capped (align (elτ E)) in
      rewrite ! 0 (λ (p : Ptr). ‵ (places_own (R E) p cells.slots)) (asked.0) refl $
      in_a_block ! base.ptr (λ p. places_own (R E) p cells.slots) (id⊢ 𝓤 (never 𝓤)) (λ b o e. fsplit ! $ flt_l ! (λ fit.
      let small : len * s < 2 ^ 63 = subst (λ k. k * s < 2 ^ 63) asked.1 fit in let bytes : len * s < 2 ^ 64 = omega arith in
      let y : (Gives Z 𝓛 at_mem run).Ghost = at_gives Z 𝓛 at_mem run κ q (rb, ro) a b o (len * s) al (block_ty E len) in
      rewrite ! 1 (λ (d : Z.row.Denot × Ptr × ℕ). ‵ (deed_owns (R E) (token Z d.0) d.1 d.2))
      (λ i. (asked.4 i, (asked.2 ∙ e) i, asked.3 i)) refl $
      -- the row is memory again
      use1 𝓛 (‵ (froom (ty_array (elτ E) (length cells.slots)) b o)) (row_room E 𝓛 b cells.slots o) $
      rewrite ! 0 (λ (n : ℕ). ‵ (froom (ty_array (elτ E) n) b o)) (asked.1) refl $
      as_raw ! (ty_array (elτ E) len) b o $ first ! $ blocks ! $
      sets ! (is ! (of_opd ! (get_in ! (fld ! refl (stop !)) (sub ! 0 refl (whole !)))) (ap ptr_val e)) refl (tt, tt) $
      sets ! (is ! (bin ! (get ! refl) (size_word !) (record { fits = subst (λ (k : ℕ). k < 2 ^ 64) (sym (uncapped len s bytes)) bytes }))
      (ap (vint w64) (uncapped len s bytes))) refl (tt, record { fits = bytes }) $
      group ! 4 $ use1 𝓛 (raw ((Gives Z 𝓛 at_mem run).pre y))
      (Gives-goes Z 𝓛 at_mem run κ q (rb, ro) a (Incl-trans short outlives) b o (len * s) al (block_ty E len) (block_size E len bytes)
      (block_align E len) bytes (capped_fits (align (elτ E)))) $
      calls_at_last ! fm (Gives Z 𝓛 at_mem run) callee y
      (and_then ! (get ! refl) (and_then ! (get ! refl) (and_then ! (get ! refl) (and_then ! (align_word !) (no_more !))))) (λ v.
      use1 𝓛 (later (given (v ≡ vunit) (‵ (flft κ q)))) (Gives-Gives Z 𝓛 at_mem run κ q (rb, ro) a b o (len * s) al (block_ty E len) v) $
      await ! tt $ learn ! (λ gone.
      lands_last ! refl (subst (λ (z : Val). T (has_ty ty_unit z) × WT z) (sym gone) (tt, tt)) $
      exec ! C Λ En (after 1 (function E Z).body) (at_ret En Post) $
      sets ! (of_opd ! (unit_lit !)) refl (tt, tt) $ returns ! (look_at ! 0 refl) $ free_all ! refl $ keep ! (0 ∷ 1 ∷ []) $ by ! exits)))))

  -- From what the contract asks to the walk: the owners of no bytes are taken for what they own, the row and the token, and each
  -- value passed is said to be the one of its parameter.
  entry : ent 𝓤 ((walk_of 𝓛 (ended E Z) (stayed E Z) clauses).pre bound)
      (WpFn 𝓤 H C Λ (function E Z) (us0 ++ (us1 ++ (us2 ++ (us3 ++ (us4 ++ []))))) Post)
  entry =
      qed 𝓛 (((‵ (flft κ q) ⊛ others) ⊛ ‵
      (owns (ShrRef (named 0) κ (P E Z) ∷ Br E ∷ usize ∷ Cr E ∷ Dr E Z ∷ []) (self, (base, (len, (cells, (deed, tt)))))
      (us0, (us1, (us2, (us3, (us4, tt))))))) ∷
      (raw (fact 𝓤 (κ₁ ⊑ E.row.lives)) ⊛ raw (fact 𝓤 (κ₂ ⊑ Z.row.lives)) ⊛ raw (fact 𝓤 (Asks E Z a base len cells deed))) ∷ []) ∵
      move ! (1 ∷ []) $ split ! $ heard ! _ (λ _. split ! $ heard ! _ (λ outlives. heard ! _ (λ asked. split ! $ split ! $ move ! (2 ∷ []) $
      fsplit3 ! $ fsplit ! $ feq_l ! (λ e0. move ! (1 ∷ []) $
      base_had E ! base us1 (λ e1. move ! (1 ∷ []) $ fsplit3 ! $ fsplit ! $ feq_l ! (λ e2. flt_l ! (λ fits.
      fsplit ! $ mark_had E ! us3 (λ e3. move ! (1 ∷ []) $ fsplit ! $ fsplit ! $ mark_had E ! us4 (λ e4. keep ! (2 ∷ 0 ∷ 3 ∷ 4 ∷ 5 ∷ []) $
      by ! (subst (λ (ws : List Val × List Val × List Val × List Val × List Val). ent 𝓤 (⋆ 𝓛 Had)
      (WpFn 𝓤 H C Λ (function E Z) (ws.0 ++ (ws.1 ++ (ws.2 ++ (ws.3 ++ (ws.4 ++ []))))) Post))
      (λ j. (sym e0 j, sym e1 j, sym e2 j, sym e3 j, sym e4 j)) (walk outlives asked fits)))))))))))

-- `deallocate` keeps its contract for each kind of label and each allocator: the triple of the body is `entry`. Cells and deed are
-- moved out of by the body and not dropped at its end, so for them nothing is to be freed there (`Goes-blank`); each other parameter
-- is dropped as its type says. `Places` gives its memory back by this contract when it is dropped.
pub deallocate_spec : {M : Type 1} → statement M
unfolding tables_of
deallocate_spec 𝓤 𝓛 𝓜 𝓡 wired X W LX LW g d dd met md =
    let E : El = record { row = X; laws = LX } in let Z : Al = record { row = W; laws = LW; g = g; d = d; drops = dd } in
    let 𝓣 = tables_of 𝓤 𝓛.H 𝓜 (tables 𝓤 𝓛.H 𝓜 𝓡 𝓡.env) in
    proved_at 𝓛 (ended E Z) (stayed E Z) (F.clauses X W g d dd 𝓛 𝓜.mem 𝓡.returns) 𝓜 𝓡 (
      Goes-dropped 𝓛 3 (RefOf (0 ∷ []) tt (plain (λ _. P E Z)) (λ _. tt)) yes
          (λ κs x f. refl),
      (
        Goes-dropped 𝓛 3 (plain (λ _. Br E)) no
            (λ κs x f. refl),
        (
          Goes-dropped 𝓛 3 (plain (λ _. usize)) yes
              (λ κs x f. refl),
          (Goes-blank 𝓛 3 (plain (λ _. Cr E)) no (λ κs x f. tt), (Goes-blank 𝓛 3 (plain (λ _. Dr E Z)) no (λ κs x f. tt), tt)),
        ),
      ),
    )
    (#self (args E Z)) (function E Z) (code.unfolded 𝓤 𝓛.H 𝓜 𝓡 wired (X, (W, tt)) d dd)
    (λ y are. let κs = y.0.0 in let qs = y.0.1 in let a = y.0.3 in let vss = y.0.4 in
    entry E Z 𝓛 𝓜.mem 𝓡.returns 𝓣.C 𝓣.Λ (fm_of 𝓤 𝓛.H 𝓛.laws 𝓣) (met.deallocate dd) κs.0 κs.1.0 κs.1.1.0 qs.0 qs.1.0 qs.1.1.0 y.0.2.0
    a.0.ref_ptr.0 a.0.ref_ptr.1 a.0.now a.1.0 a.1.1.0 a.1.1.1.0 a.1.1.1.1.0 vss.0 vss.1.0 vss.1.1.0 vss.1.1.1.0 vss.1.1.1.1.0)
