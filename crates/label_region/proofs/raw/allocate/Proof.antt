-- `allocate` makes a row of empty places of the new memory, and keeps the right to give it back. Assumes `Logic`.
use mathlib.Core.Path.{◌≡◌, refl, sym, ap, subst}
use mathlib.Core.Bool.{true, false}
use Prim.Native.Nat.{ℕ, ◌*◌, ◌<◌, ◌^◌}
use native.Mathlib.Omega.{arith}
use mathlib.Core.List.{List, [], ◌∷◌, ◌++◌}
use lib.Dec.{lit<}
use lib.ListN.{length, replicate, length-replicate}
use seplogic.Ra.Ura.{Ura}
use mir.Syntax.{Fn, Body, named, w64, ty_array}
use mir.MapTy.{inst_fn}
use mir.Val.{Val, vptr, vint, vstruct, vcons, vnil}
use base.Logic.{SProp, ent, sep}
use base.Fml.{Lft, Share, Incl-trans, ftrue, flft}
use prog.Memory.{Memory, align, capped}
use prog.Capped.{capped_fits}
use prog.Routine.{Routine}
use prog.Wp.{Env, Calls, Loops, Wp, WpFn, after_seq, at_return}
use types.Logic.{Logic, sem}
use sound.WpLaws.{FmC, fm_of}
use contract.Monad.{Fun, fact}
use contract.BorrowLft.{◌⊑◌}
use contract.Running.{tables, tables_of}
use types.Kit.{Item, Post as After, ⋆, ‵, raw, ◌⊛◌, later, await, any_q, at_ret, ◌$◌, ◌∵◌, !, qed, by, move, keep, use0, use1, use2, use3, split, join, frame, fsplit, fsplit3, fjoin, feq_i, feq_l, flt_i, flt_l, fpack, suffices, done}
use types.Part.{whole, agg}
use types.Match.{live, vrt, in_variant}
use types.Run.{stop, fld, bin, lit, of_opd, size_word, align_word, and_then, no_more, first, switches_on, exec, returns, enter}
use types.ByLocal.{alloc_all, pass_all, free_all, look_at, get, get_in, get_tag, sets, sets_last, is, lands_as, env}
use denote.Builtin.{usize, RefOf}
use denote.Exit.{yes}
use denote.Laws.{Is}
use denote.RattleType.{RattleType, Valss, owns}
use denote.Memory.{hidden_shr}
use denote.Param.{layout}
use denote.RawPtr.{Ptr, block_ptr}
use denote.Ref.{Bor, ShrRef}
use denote.Signature.{plain}
use denote.Steps.{nothing, owned, heard}
use denote.Struct.Declared as Declared
use denote.Struct.Struct.{Struct, Struct-Makes, within}
use denote.Struct.Tuple.{Tuple, tuple_type}
use denote.Triple.Call.{calls_at}
use denote.Triple.Clauses.{Clauses, Ended}
use denote.Triple.Statement.{Triple}
use denote.Triple.Walked.{says, Stays, stay_dropped, walk_of, ends_at, Goes-dropped}
use Rattle.std.specs.Prelude.{None, Ok, Err, IfOk}
use Rattle.std.specs.Vec.Ownership.{FitsInBlock}
use Rattle.std.proofs.raw_atomic.Walks.{proved_at}
use Rattle.core.specs.contracts.result.Result as result-type
use Rattle.core.specs.contracts.alloc.AllocError as error-type
use Rattle.core.proofs.alloc.Calls.{Al, Answer-typed, takes_key, Takes, at_takes, Answered, Takes-goes, Takes-gives, answers}
use Rattle.core.proofs.mem.Param.{El, R, elτ}
use Rattle.core.proofs.slots.Leases.{uncapped, block_ty, block_size, block_align, args, P}
use Rattle.std_alloc.proofs.RawLayout.{as_written}
use Rattle.std_alloc.proofs.RcSteps.{Good, word, word-Good, first_Good}
use Rattle.std_alloc.proofs.ResultValues.{ok_of, err_of}
use Rattle.std_alloc.proofs.VecSteps.Shapes.{after, head, arm_body}
use Rattle.label_region.specs.Ownership.{row_own}
use Rattle.label_region.proofs.Steps.{Cr, Br, Mark, width, mark, mark_made, base_made, empty_row}
use Rattle.label_region.specs.contracts.raw.Deed as deed-type
use Rattle.label_region.specs.contracts.raw.allocate as F
use Rattle.label_region.specs.contracts.raw.allocate.Key.{name as #self}
use Rattle.label_region.proofs.raw.allocate.Statement.{statement}
use Rattle.label_region.proofs.raw.allocate.Code as code

-- a triple of one machine value each
abbrev three : Val → Val → Val → Val
three u v w = vstruct (vcons u (vcons v (vcons w vnil)))

three_own : {M : Type 1} {𝓤 : Ura M} (𝓛 : Logic 𝓤) (R S T : RattleType) (x : R.Denot) (y : S.Denot) (z : T.Denot) (u v w : Val)
    → ent 𝓤 (sep 𝓤 (sem 𝓛 (R.own_val x (u ∷ []))) (sep 𝓤 (sem 𝓛 (S.own_val y (v ∷ []))) (sem 𝓛 (T.own_val z (w ∷ [])))))
    (sem 𝓛 ((Tuple (R ∷ S ∷ T ∷ [])).own_val (x, y, z) (three u v w ∷ [])))
three_own 𝓛 R S T x y z u v w =
    let all : Val = three u v w in
    qed 𝓛 (‵ (R.own_val x (u ∷ [])) ∷ ‵ (S.own_val y (v ∷ [])) ∷ ‵ (T.own_val z (w ∷ [])) ∷ []) ∵
    nothing ! $ move ! (3 ∷ 0 ∷ []) $ fjoin ! $ move ! (2 ∷ 0 ∷ []) $ fjoin ! $ move ! (1 ∷ 0 ∷ []) $ fjoin ! $
    feq_i ! (List Val) (all ∷ []) (all ∷ []) refl $ fjoin ! $
    fpack ! (Valss (R ∷ S ∷ T ∷ [])) (within (Declared.shape (tuple_type (R ∷ S ∷ T ∷ []))) (x, (y, (z, tt))) (all ∷ []))
    (u ∷ [], (v ∷ [], (w ∷ [], tt))) $ done !

module _ (E : El) (Z : Al) where
  abbrev function : Fn
  function = inst_fn (args E Z) code.function

  abbrev ended : Ended
  ended = F.ended E.row Z.row Z.g Z.d Z.drops

  abbrev Dr : RattleType
  Dr = deed-type.the_row (R E) (P E Z) Z.g

  abbrev stayed : Stays ended.signature.params ended.kept
  stayed = (stay_dropped (RefOf (0 ∷ []) tt (plain (λ _. P E Z)) (λ _. tt)) yes, (stay_dropped (plain (λ _. usize)) yes, tt))

  abbrev Parts : RattleType
  Parts = Tuple (Br E ∷ Cr E ∷ Dr ∷ [])

  abbrev Out : RattleType
  Out = result-type.the_row Parts error-type.the_row

module _ (E : El) (Z : Al) {M : Type 1} {𝓤 : Ura M} (𝓛 : Logic 𝓤) (at_mem : Memory → SProp 𝓤) (run : Routine → Fun 𝓤) (C : Calls 𝓤 𝓛.H)
    (Λ : Loops 𝓤 𝓛.H) (fm : FmC 𝓤 𝓛.H 𝓛.laws C)
    (callee : Triple 𝓤 (C (takes_key Z)) (Takes Z 𝓛 at_mem run)) (κ κ₁ κ₂ : Lft) (q q₁ q₂ : Share) (short : κ ⊑ κ₂) (rb ro : ℕ)
    (a : Z.row.Denot) (len : ℕ) (us0 us1 : List Val) where
  open 𝓛 use {H}

  abbrev clauses : Clauses 𝓤 (ended E Z)
  clauses = F.clauses E.row Z.row Z.g Z.d Z.drops 𝓛 at_mem run

  abbrev self : Bor Z.row.Denot
  self = record { ref_ptr = (rb, ro); now = a }

  abbrev bound : (walk_of 𝓛 (ended E Z) (stayed E Z) clauses).Ghost
  bound = (((κ, (κ₁, (κ₂, tt))), (q, (q₁, (q₂, tt))), (short, tt), (self, (len, tt)), (us0, (us1, tt))), tt)

  abbrev Post : Val → SProp 𝓤
  Post = (walk_of 𝓛 (ended E Z) (stayed E Z) clauses).post bound

  abbrev others : Item 𝓤
  others = ‵ (flft κ₁ q₁) ⊛ ‵ (flft κ₂ q₂) ⊛ ‵ ftrue

  -- The way out, which both branches of the body take: an owned answer of the function's type, of which the facts of the contract
  -- hold, and the lifetimes that were lent. The contract's end is put together from these; no memory is left over.
  exits : (r : (Out E Z).Denot) (v : Val) →
      IfOk r (λ t. (t.1.at ≡ t.0.ptr) × (t.1.slots ≡ replicate len None) × (t.2.at ≡ t.0.ptr) × (t.2.len ≡ len) × (t.2.alloc ≡ a))
      → ent 𝓤 (⋆ 𝓛 (‵ ((Out E Z).own_val r (v ∷ [])) ∷ ‵ (flft κ q) ∷ others ∷ [])) (Post v)
  exits r v told =
      qed 𝓛 (‵ ((Out E Z).own_val r (v ∷ [])) ∷ ‵ (flft κ q) ∷ others ∷ []) ∵
      suffices ! _ (ends_at 𝓛 (ended E Z) (stayed E Z) clauses bound v r (tt, (tt, tt)) (tt, (tt, tt))) $ says ! told $
      move ! (1 ∷ 2 ∷ []) $ join ! $ frame ! $ nothing ! $ nothing ! $ fjoin ! $ nothing ! $ fjoin ! $ done !

  abbrev Had : List (Item 𝓤)
  Had = ‵ (hidden_shr (P E Z) κ a rb ro) ∷ ‵ (flft κ q) ∷ others ∷ []

  -- The walk over the machine's steps. The body asks the allocator for the count times the width of a label; as the row is asked to
  -- fit in a block this product does not overflow, so the bytes are those of an array of labels. Where memory comes, its raw bytes
  -- are read as a row of empty places (`empty_row`), which `Cells` owns from then on, and the token to free them is what `Deed`
  -- owns; both are values of no bytes, so what they own stands beside the machine's values. Where none comes, the error is passed on
  -- and nothing is owned.
  walk : κ₂ ⊑ Z.row.lives → FitsInBlock (R E) len → len < 2 ^ 64 →
      ent 𝓤 (⋆ 𝓛 Had) (WpFn 𝓤 H C Λ (function E Z) (vptr rb ro ∷ vint w64 len ∷ []) Post)
  walk outlives asked fits =
      let s = width E in let small : len * s < 2 ^ 63 = asked.0 in let bytes : len * s < 2 ^ 64 = omega arith in
      qed 𝓛 Had ∵ enter ! C Λ (function E Z) (vptr rb ro ∷ vint w64 len ∷ []) _ $
      alloc_all ! (λ l. pass_all ! refl ((tt, tt), ((tt, record { fits = fits }), tt)) $
      let En : Env 𝓤 H = env (function E Z).locals l in
      let arms : Body = head (after 2 (function E Z).body) in
      let Then : After 𝓤 H = any_q
      (after_seq 𝓤 H (Wp 𝓤 H C Λ En (after 3 (function E Z).body) (at_return 𝓤 H En Post)) (at_return 𝓤 H En Post)) in
      let al : ℕ = capped (align (elτ E)) in
      let y : (Takes Z 𝓛 at_mem run).Ghost = at_takes Z 𝓛 at_mem run κ q (rb, ro) a (len * s) al (block_ty E len) in
      sets ! (is ! (bin ! (get ! refl) (size_word !) (record { fits = subst (λ (k : ℕ). k < 2 ^ 64) (sym (uncapped len s bytes)) bytes }))
      (ap (vint w64) (uncapped len s bytes))) refl (tt, record { fits = bytes }) $
      use2 𝓛 (raw ((Takes Z 𝓛 at_mem run).pre y))
      (Takes-goes Z 𝓛 at_mem run κ q (rb, ro) a (Incl-trans short outlives) (len * s) al (block_ty E len) (block_size E len bytes)
      (block_align E len) bytes (capped_fits (align (elτ E)))) $
      calls_at ! fm (Takes Z 𝓛 at_mem run) callee y
      (and_then ! (get ! refl) (and_then ! (get ! refl) (and_then ! (align_word !) (no_more !)))) (λ v.
      use1 𝓛 (later (raw (Answered Z 𝓛 at_mem run a (block_ty E len) v) ⊛ ‵ (flft κ q)))
      (Takes-gives Z 𝓛 at_mem run κ q (rb, ro) a (len * s) al (block_ty E len) v) $ await ! tt $ split ! $
      answers Z ! at_mem run a (block_ty E len) v
      -- memory, of which a row of empty places is made
      (λ b o e.
      let at : Ptr = block_ptr b o in
      let base : (Br E).Denot = record { ptr = at } in
      let cells : (Cr E).Denot = record { mark = record {}; at = at; slots = replicate len None } in
      let deed : (Dr E Z).Denot = record { mark = record {}; at = at; len = len; alloc = a } in
      let made : Val = three (word at) mark mark in
      let typed : Good (layout (Parts E Z)) made = (tt, ((tt, tt), ((tt, tt), ((tt, tt), tt)))) in
      let ok = first_Good (layout (Parts E Z)) made typed in
      lands_as ! e refl (Answer-typed true b o) $ first ! $ switches_on ! (get_tag ! (vrt ! refl (fld ! refl (stop !))) (whole !)) $
      exec ! C Λ En (arm_body 0 arms) Then $
      sets ! (of_opd ! (get_in ! (vrt ! refl (fld ! refl (stop !))) (in_variant ! 0 0 refl refl (whole !)))) refl (tt, tt) $
      sets ! (of_opd ! (get ! refl)) refl (tt, tt) $
      sets ! (agg ! (and_then ! (get ! refl) (no_more !))) refl (word-Good [] at) $
      sets ! (agg ! (no_more !)) refl (tt, tt) $ sets ! (agg ! (and_then ! (get ! refl) (no_more !))) refl (tt, (tt, tt)) $
      sets ! (agg ! (no_more !)) refl (tt, tt) $ sets ! (agg ! (and_then ! (get ! refl) (no_more !))) refl (tt, (tt, tt)) $
      sets ! (agg ! (and_then ! (get ! refl) (and_then ! (get ! refl) (and_then ! (get ! refl) (no_more !))))) refl typed $
      sets_last ! (agg ! (and_then ! (lit ! tt) (and_then ! (get ! refl) (no_more !)))) refl ok $
      exec ! C Λ En (after 3 (function E Z).body) (at_ret En Post) $ sets ! (of_opd ! (get ! refl)) refl ok $
      move ! (1 ∷ []) $ use0 𝓛 (‵ ((Mark E).own_val (tt, tt) (mark ∷ []))) (mark_made E 𝓛) $ fjoin ! $ move ! (1 ∷ []) $
      as_written ! (ty_array (elτ E) len) b o $ use1 𝓛 (‵ (row_own (R E) b o cells.slots)) (empty_row E 𝓛 b len o) $
      flt_i ! (length cells.slots * s) (2 ^ 63) (subst (λ k. k * s < 2 ^ 63) (sym (length-replicate len None)) small) $ fjoin ! $
      use0 𝓛 (‵ ((Mark E).own_val (tt, tt) (mark ∷ []))) (mark_made E 𝓛) $ fjoin ! $ base_made E ! base $
      use3 𝓛 (‵ ((Parts E Z).own_val (base, cells, deed) (made ∷ [])))
      (three_own 𝓛 (Br E) (Cr E) (Dr E Z) base cells deed (word at) mark mark) $
      use1 𝓛 (‵ ((Out E Z).own_val (Ok (base, cells, deed)) (live 0 (vcons made vnil) ∷ [])))
      (ok_of 𝓛 (Parts E Z) error-type.the_row (base, cells, deed) made) $
      returns ! (look_at ! 0 refl) $ free_all ! refl $ keep ! (0 ∷ 1 ∷ 2 ∷ []) $
      by ! (exits (Ok (base, cells, deed)) (live 0 (vcons made vnil)) (refl, refl, refl, refl, refl)))
      -- running out of memory
      (λ e.
      let Refusal : RattleType = Struct (Declared.shape error-type.the_type) in
      let none : Val = live 1 (vcons (vstruct vnil) vnil) in
      lands_as ! e refl (Answer-typed false 0 0) $ first ! $ switches_on ! (get_tag ! (vrt ! refl (fld ! refl (stop !))) (whole !)) $
      exec ! C Λ En (arm_body 1 arms) Then $
      sets ! (of_opd ! (get_in ! (vrt ! refl (fld ! refl (stop !))) (in_variant ! 1 0 refl refl (whole !)))) refl (tt, tt) $
      sets_last ! (agg ! (and_then ! (lit ! tt) (and_then ! (get ! refl) (no_more !)))) refl (tt, (record { fits = lit< tt }, (tt, tt))) $
      exec ! C Λ En (after 3 (function E Z).body) (at_ret En Post) $
      sets ! (of_opd ! (get ! refl)) refl (tt, (record { fits = lit< tt }, (tt, tt))) $
      owned ! Refusal (Is Refusal) (Struct-Makes 𝓛 (Declared.shape error-type.the_type) tt) tt (vstruct vnil ∷ []) (tt, (refl, tt)) $
      use1 𝓛 (‵ ((Out E Z).own_val (Err (record {})) (none ∷ []))) (err_of 𝓛 (Parts E Z) error-type.the_row (record {}) (vstruct vnil)) $
      returns ! (look_at ! 0 refl) $ free_all ! refl $ keep ! (0 ∷ 1 ∷ 2 ∷ []) $ by ! (exits (Err (record {})) none tt))))

  -- From what the contract asks to the walk: the facts are heard, and of the values passed it is said which they are, the reference
  -- to the allocator and the count as a word. The walk can then speak of these values alone.
  entry : ent 𝓤 ((walk_of 𝓛 (ended E Z) (stayed E Z) clauses).pre bound) (WpFn 𝓤 H C Λ (function E Z) (us0 ++ (us1 ++ [])) Post)
  entry =
      qed 𝓛 (((‵ (flft κ q) ⊛ others) ⊛ ‵ (owns (ShrRef (named 0) κ (P E Z) ∷ usize ∷ []) (self, (len, tt)) (us0, (us1, tt)))) ∷
      (raw (fact 𝓤 (κ₁ ⊑ E.row.lives)) ⊛ raw (fact 𝓤 (κ₂ ⊑ Z.row.lives)) ⊛ raw (fact 𝓤 (FitsInBlock (R E) len))) ∷ []) ∵
      move ! (1 ∷ []) $ split ! $ heard ! _ (λ _. split ! $ heard ! _ (λ outlives. heard ! _ (λ asked. split ! $ split ! $ move ! (2 ∷ []) $
      fsplit3 ! $ fsplit ! $ feq_l ! (λ e0. move ! (1 ∷ []) $ fsplit ! $ feq_l ! (λ e1. flt_l ! (λ fits. keep ! (0 ∷ 2 ∷ 3 ∷ []) $
      by ! (subst (λ (ws : List Val × List Val). ent 𝓤 (⋆ 𝓛 Had) (WpFn 𝓤 H C Λ (function E Z) (ws.0 ++ (ws.1 ++ [])) Post))
      (λ j. (sym e0 j, sym e1 j)) (walk outlives asked fits))))))))

-- `allocate` keeps its contract for each kind of label and each allocator. The triple of the body is `entry`; what is left is to say
-- of each parameter how it is dropped when the function ends, that the code is the one compiled, and that the allocator's own
-- contract stands for the call. The rest of the crate knows the row by this contract alone, and never sees the memory.
pub allocate_spec : {M : Type 1} → statement M
unfolding tables_of
allocate_spec 𝓤 𝓛 𝓜 𝓡 wired X W LX LW g d dd met md =
    let E : El = record { row = X; laws = LX } in let Z : Al = record { row = W; laws = LW; g = g; d = d; drops = dd } in
    let 𝓣 = tables_of 𝓤 𝓛.H 𝓜 (tables 𝓤 𝓛.H 𝓜 𝓡 𝓡.env) in
    proved_at 𝓛 (ended E Z) (stayed E Z) (F.clauses X W g d dd 𝓛 𝓜.mem 𝓡.returns) 𝓜 𝓡 (
      Goes-dropped 𝓛 3 (RefOf (0 ∷ []) tt (plain (λ _. P E Z)) (λ _. tt)) yes
          (λ κs x f. refl),
      (Goes-dropped 𝓛 3 (plain (λ _. usize)) yes (λ κs x f. refl), tt),
    )
    (#self (args E Z)) (function E Z) (code.unfolded 𝓤 𝓛.H 𝓜 𝓡 wired (X, (W, tt)) d dd)
    (λ y are. let κs = y.0.0 in let qs = y.0.1 in let a = y.0.3 in let vss = y.0.4 in
    entry E Z 𝓛 𝓜.mem 𝓡.returns 𝓣.C 𝓣.Λ (fm_of 𝓤 𝓛.H 𝓛.laws 𝓣) (met.allocate dd) κs.0 κs.1.0 κs.1.1.0 qs.0 qs.1.0 qs.1.1.0 y.0.2.0
    a.0.ref_ptr.0 a.0.ref_ptr.1 a.0.now a.1.0 vss.0 vss.1.0)
