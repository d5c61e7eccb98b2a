-- `get` lends the label that a place holds. Assumes `Logic`.
use mathlib.Core.Path.{◌≡◌, refl, sym, subst, ◌∙◌}
use Prim.Native.Nat.{ℕ, ◌+◌, ◌*◌, ◌<◌, ◌^◌}
use native.Mathlib.Omega.{arith}
use mathlib.Core.List.{List, [], ◌∷◌, ◌++◌}
use lib.ListN.{length, get_or}
use seplogic.Ra.Ura.{Ura}
use base.Fraction.{full_share}
use mir.Syntax.{Fn, named, w64}
use mir.MapTy.{inst_fn}
use mir.Val.{Val, vptr, vint}
use base.Logic.{SProp, ent, never, id⊢}
use base.Fml.{Lft, Share, ftrue, fat, flft}
use prog.Memory.{Memory}
use prog.Routine.{Routine}
use prog.Wp.{Env, Calls, Loops, WpFn}
use types.Logic.{Logic}
use contract.Monad.{Fun, fact}
use contract.BorrowLft.{◌⊑◌}
use contract.Running.{tables}
use types.Kit.{Item, ⋆, ‵, raw, ◌⊛◌, at_ret, ◌$◌, ◌∵◌, !, qed, by, move, keep, drop, use1, split, join, rewrite, fsplit, fjoin, feq_i, feq_l, flt_l, suffices, frame, done}
use types.Part.{whole, sub}
use types.Run.{stop, fld, of_opd, addr, bin, size_lit, first, blocks, exec, returns, enter}
use types.ByLocal.{alloc_all, pass_all, free_all, look_at, get, get_in, through, sets, sets_last, take_at, give_at, env}
use denote.Builtin.{usize, RefOf}
use denote.Exit.{yes, no}
use denote.Opens.{hide, unhide}
use denote.RattleType.{owns}
use denote.Memory.{hidden_shr}
use denote.Param.{layout}
use denote.RawPtr.{Ptr, in_a_block}
use denote.Ref.{Bor, ShrRef}
use denote.Signature.{plain}
use denote.Steps.{nothing, heard}
use denote.Triple.Clauses.{Clauses, Ended}
use denote.Triple.Walked.{says, Stays, stay_dropped, walk_of, ends_at, Goes-dropped}
use Rattle.std.specs.Prelude.{Some, None}
use Rattle.std.proofs.raw_atomic.Walks.{proved_at}
use Rattle.core.proofs.mem.Param.{El, R, args, el_x}
use Rattle.core.proofs.ptr.Rows.{times_below, one_below}
use Rattle.std_alloc.proofs.RcSteps.{word, word-Good}
use Rattle.std_alloc.proofs.VecSteps.Shapes.{after}
use Rattle.label_region.specs.Places.{IsFilled}
use Rattle.label_region.specs.Ownership.{place_lent, places_lent}
use Rattle.label_region.proofs.Steps.{Cr, Br, width, Place, base_had, seen, filled_within}
use Rattle.label_region.specs.contracts.raw.Cells.get as F
use Rattle.label_region.specs.contracts.raw.Cells.get.Key.{name as #self}
use Rattle.label_region.proofs.raw.Cells.get.Statement.{statement}
use Rattle.label_region.proofs.raw.Cells.get.Code as code

module _ (E : El) where
  abbrev function : Fn
  function = inst_fn (args E) code.function

  abbrev ended : Ended
  ended = F.ended E.row

  abbrev stayed : Stays ended.signature.params ended.kept
  stayed = (
    stay_dropped (RefOf (0 ∷ []) tt (plain (λ _. Cr E)) (λ _. tt))
        yes,
    (stay_dropped (plain (λ _. Br E)) no, (stay_dropped (plain (λ _. usize)) yes, tt)),
  )

  abbrev Asks : (Cr E).Denot → (Br E).Denot → ℕ → Type 0
  Asks d base index = (base.ptr ≡ d.at) × IsFilled d.slots index

module _ (E : El) {M : Type 1} {𝓤 : Ura M} (𝓛 : Logic 𝓤) (at_mem : Memory → SProp 𝓤) (run : Routine → Fun 𝓤)
    (C : Calls 𝓤 𝓛.H) (Λ : Loops 𝓤 𝓛.H)
    (κ κ₁ : Lft) (q q₁ : Share) (short : κ ⊑ κ₁) (rb ro : ℕ) (d : (Cr E).Denot) (base : (Br E).Denot) (index : ℕ) (us0 us1 us2 : List Val)
  where
    open 𝓛 use {H}

    abbrev clauses : Clauses 𝓤 (ended E)
    clauses = F.clauses E.row 𝓛 at_mem run

    abbrev self : Bor (Cr E).Denot
    self = record { ref_ptr = (rb, ro); now = d }

    abbrev bound : (walk_of 𝓛 (ended E) (stayed E) clauses).Ghost
    bound = (((κ, (κ₁, tt)), (q, (q₁, tt)), (short, tt), (self, (base, (index, tt))), (us0, (us1, (us2, tt)))), tt)

    abbrev Post : Val → SProp 𝓤
    Post = (walk_of 𝓛 (ended E) (stayed E) clauses).post bound

    abbrev others : Item 𝓤
    others = ‵ (flft κ₁ q₁) ⊛ ‵ ftrue

    -- The way out: a shared reference to a label, of which it holds that the place at the index has this label, and the lifetimes.
    exits : (r : Bor (el_x E)) (v : Val) → get_or d.slots index None ≡ Some r.now
        → ent 𝓤 (⋆ 𝓛 (‵ ((ShrRef (named 0) κ (R E)).own_val r (v ∷ [])) ∷ ‵ (flft κ q) ∷ others ∷ [])) (Post v)
    exits r v holds =
        qed 𝓛 (‵ ((ShrRef (named 0) κ (R E)).own_val r (v ∷ [])) ∷ ‵ (flft κ q) ∷ others ∷ []) ∵
        suffices ! _ (ends_at 𝓛 (ended E) (stayed E) clauses bound v r (tt, (tt, (tt, tt))) (tt, (tt, (tt, tt)))) $ says ! holds $
        move ! (1 ∷ 2 ∷ []) $ join ! $ frame ! $ nothing ! $ nothing ! $ fjoin ! $ nothing ! $ fjoin ! $ nothing ! $ fjoin ! $ done !

    abbrev Had : List (Item 𝓤)
    Had = ‵ (hidden_shr (Cr E) κ d rb ro) ∷ ‵ (flft κ q) ∷ others ∷ []

    -- The walk over the machine's steps. The reference to the cells is opened, and what it lends is the row; the pointer passed is
    -- the row's first byte. The index is below the number of places, since the place is filled, and a row has fewer than 2^63 bytes:
    -- so index times width does not overflow, and the address reckoned is that of the place. Of the row this one place is lent
    -- (`seen`); it holds a label, and what is lent of a label at an address is just what a shared reference to it is.
    walk : Asks E d base index → index < 2 ^ 64 →
        ent 𝓤 (⋆ 𝓛 Had) (WpFn 𝓤 H C Λ (function E) (vptr rb ro ∷ word base.ptr ∷ vint w64 index ∷ []) Post)
    walk asked fits =
        let x = asked.1.0 in let holds = asked.1.1 in let inside = filled_within d.slots index x holds in let s = width E in
        qed 𝓛 Had ∵ enter ! C Λ (function E) (vptr rb ro ∷ word base.ptr ∷ vint w64 index ∷ []) _ $
        alloc_all ! (λ l. pass_all ! refl ((tt, tt), (word-Good [] base.ptr, ((tt, record { fits = fits }), tt))) $
        let En : Env 𝓤 H = env (function E).locals l in
        unhide ! $ fsplit ! $ drop ! $
        in_a_block ! d.at (λ p. places_lent (R E) p d.slots κ) (id⊢ 𝓤 (never 𝓤)) (λ b o e. fsplit ! $ flt_l ! (λ small.
        let narrow : s < 2 ^ 64 = omega (arith, one_below (length d.slots) s (2 ^ 63) (omega arith) small) in
        let far : index * s < 2 ^ 64 = omega (arith, times_below index (length d.slots) s (2 ^ 63) (omega arith) small) in
        let at : ℕ = index * s + o in
        -- the address of the place
        take_at ! 2 $ rewrite ! 0 (λ (p : Ptr). ‵ (fat full_share (layout (Br E)) (l 2) 0 (word p))) (asked.0 ∙ e) refl $
        give_at ! 2 $ first ! $ blocks ! $
        sets ! (bin ! (get ! refl) (size_lit ! (record { fits = narrow })) (record { fits = far })) refl (tt, record { fits = far }) $
        sets ! (bin ! (get_in ! (fld ! refl (stop !)) (sub ! 0 refl (whole !))) (get ! refl) tt) refl (tt, tt) $
        -- the label there
        use1 𝓛 (‵ (place_lent (R E) b at (get_or d.slots index None) κ)) (seen E 𝓛 b κ d.slots index o at inside refl) $
        rewrite ! 0 (λ (p : Place E). ‵ (place_lent (R E) b at p κ)) holds refl $ hide ! $
        sets_last ! (addr ! (through ! refl (stop !))) refl (tt, tt) $ exec ! C Λ En (after 1 (function E).body) (at_ret En Post) $
        sets ! (of_opd ! (get ! refl)) refl (tt, tt) $
        feq_i ! (List Val) (vptr b at ∷ []) (vptr b at ∷ []) refl $ fjoin ! $
        returns ! (look_at ! 0 refl) $ free_all ! refl $ keep ! (0 ∷ 1 ∷ 2 ∷ []) $
        by ! (exits (record { ref_ptr = (b, at); now = x }) (vptr b at) holds))))

    -- From what the contract asks to the walk: the facts are heard, and the values passed are the reference to the cells, the
    -- pointer and the index.
    entry : ent 𝓤 ((walk_of 𝓛 (ended E) (stayed E) clauses).pre bound) (WpFn 𝓤 H C Λ (function E) (us0 ++ (us1 ++ (us2 ++ []))) Post)
    entry =
        qed 𝓛 (((‵ (flft κ q) ⊛ others) ⊛ ‵
        (owns (ShrRef (named 0) κ (Cr E) ∷ Br E ∷ usize ∷ []) (self, (base, (index, tt))) (us0, (us1, (us2, tt))))) ∷
        (raw (fact 𝓤 (κ₁ ⊑ E.row.lives)) ⊛ raw (fact 𝓤 (Asks E d base index))) ∷ []) ∵
        move ! (1 ∷ []) $ split ! $ heard ! _ (λ outlives. heard ! _ (λ asked. split ! $ split ! $ move ! (2 ∷ []) $
        fsplit ! $ fsplit ! $ feq_l ! (λ e0. move ! (1 ∷ []) $ fsplit ! $ base_had E ! base us1 (λ e1.
        fsplit ! $ fsplit ! $ feq_l ! (λ e2. flt_l ! (λ fits. keep ! (1 ∷ 2 ∷ 3 ∷ []) $
        by ! (subst (λ (ws : List Val × List Val × List Val). ent 𝓤 (⋆ 𝓛 Had)
        (WpFn 𝓤 H C Λ (function E) (ws.0 ++ (ws.1 ++ (ws.2 ++ []))) Post))
        (λ j. (sym e0 j, sym e1 j, sym e2 j)) (walk asked fits))))))))

-- `Cells.get` keeps its contract for each kind of label: the triple of the body is `entry`, and the parameters are dropped without a
-- trace. The reference that is answered lives no longer than the one to the cells, as it is made from what that one lends.
pub get_spec : {M : Type 1} → statement M
get_spec 𝓤 𝓛 𝓜 𝓡 wired X LX =
    let E : El = record { row = X; laws = LX } in let 𝓣 = tables 𝓤 𝓛.H 𝓜 𝓡 𝓡.env in
    proved_at 𝓛 (ended E) (stayed E) (F.clauses X 𝓛 𝓜.mem 𝓡.returns) 𝓜 𝓡 (
      Goes-dropped 𝓛 2 (RefOf (0 ∷ []) tt (plain (λ _. Cr E)) (λ _. tt)) yes
          (λ κs x f. refl),
      (Goes-dropped 𝓛 2 (plain (λ _. Br E)) no (λ κs x f. refl), (Goes-dropped 𝓛 2 (plain (λ _. usize)) yes (λ κs x f. refl), tt)),
    )
    (#self (args E)) (function E) (code.unfolded 𝓤 𝓛.H 𝓜 𝓡 wired (X, tt))
    (λ y are. let κs = y.0.0 in let qs = y.0.1 in let a = y.0.3 in let vss = y.0.4 in
    entry E 𝓛 𝓜.mem 𝓡.returns 𝓣.C 𝓣.Λ κs.0 κs.1.0 qs.0 qs.1.0 y.0.2.0 a.0.ref_ptr.0 a.0.ref_ptr.1 a.0.now a.1.0
    a.1.1.0 vss.0 vss.1.0 vss.1.1.0)
