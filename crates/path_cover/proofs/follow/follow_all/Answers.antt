use Rattle.std.proofs.Common.{◌≡◌, ◌≢◌, ℕ, ◌+◌, ◌<◌, List, [], ◌∷◌, ◌++◌, sym, ap, subst, ◌∙◌, slice_index}
use Rattle.path_cover.specs.Nets.{first_nodes}
use Rattle.path_cover.specs.Walks.{AllFollow, starts}
use Rattle.path_cover.proofs.Following.{firsts_more, follow_more, starts_no, starts_yes}
use Rattle.path_cover.proofs.follow.follow_all.Goals as goal
use Rattle.path_cover.proofs.follow.follow_all.Goals.{then-from-u+in_ok-follow+in_ok-push, else-from-u}

pub loop-u-preserved : goal.loop-u-preserved
loop-u-preserved c =
    let n = c.args.n in
    let to = slice_index c.args.to.now in
    let from = slice_index c.args.from.now in
    let u = c.loop-u.u in
    let before = c.loop-u.lists in
    let inv = c.loop-u.invariant in
    let within : u < n = c.loop-u-test.true in
    let P : List (List ℕ) → Type 0 = λ lists. AllFollow n to lists × (first_nodes lists ≡ starts n from (u + 1)) in
    elim c.if-from-u.branch [
      | then-from-u+in_ok-follow+in_ok-push w ↦
          let path = w.in_ok-follow.ensures in
          let is : from u ≡ n = w.if-from-u.true in
          let lists : c.if-from-u.lists ≡ before ++ (u ∷ path.0) ∷ [] =
          w.lists-is ∙ (w.in_ok-push.ensures.ok ∙ ap (λ (l : List ℕ). before ++ l ∷ []) path.1) in
          let firsts : first_nodes (before ++ (u ∷ path.0) ∷ []) ≡ starts n from (u + 1) =
          firsts_more before u path.0 ∙ (ap (λ (l : List ℕ). l ++ u ∷ []) inv.1 ∙ sym (starts_yes n from u is)) in
          subst P (sym lists) (follow_more n to before u path.0 inv.0 within path.2, firsts)
      | else-from-u w ↦
          let is_not : from u ≢ n = w.if-from-u.false in
          subst P (sym w.lists-is) (inv.0, inv.1 ∙ sym (starts_no n from u is_not))
    ]
