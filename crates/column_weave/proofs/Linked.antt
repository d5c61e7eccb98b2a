-- Links, one more at a time.
use Rattle.std.proofs.Common.{◌≡◌, ℕ, ℤ, ◌+◌, ◌<◌, ◌≤◌, zero, suc, List, [], ◌∷◌, ◌++◌, length, get_or, take, drop, refl, sym, ap, ◌∙◌, subst, inl, inr, arith, All, Option, None}
use Rattle.std.proofs.Math.ListN.{set, length-set}
use Rattle.std.proofs.lemmas.Bool.{cases_eq}
use Rattle.std.proofs.lemmas.List.{get_or-set_same, get_or-set_other, get_or_push, drop_all, take_all}
use Rattle.std.proofs.lemmas.List.Elements.{All-push}
use Rattle.cover_core.specs.Cover.{Problem}
use Rattle.column_weave.specs.declared.link.Link.{Link}
use Rattle.column_weave.specs.declared.links.ClassLinks.{ClassLinks}
use Rattle.column_weave.specs.declared.web.Web.{Web}
use Rattle.column_weave.specs.Sums.{IsReach}
use Rattle.column_weave.specs.Webs.{AreLinks, IsLinkInto, IsRanged, IsSingle, IsWeb}

append-nil : (xs : List (List Link)) → xs ++ [] ≡ xs
append-nil [] = refl
append-nil (x ∷ xs) = ap (λ (l : List (List Link)). x ∷ l) (append-nil xs)

-- as many lists put in place of those that are there
pub refilled : (n : ℕ) (old new : List (List Link)) → length old ≡ n → length new ≡ length old → take n (new ++ drop (length new) old) ≡ new
refilled n old new len same =
    let end : length old ≤ length new = omega arith in
    let few : length new ≤ n = omega arith in
    let none : drop (length new) old ≡ [] = drop_all (length new) old end in
    ap (λ (l : List (List Link)). take n (new ++ l)) none ∙ ap (λ (l : List (List Link)). take n l) (append-nil new) ∙ take_all n new few

-- one more link into an item
All-put : (Q : ℕ → Link → Type 0) (into : List (List Link)) (item : ℕ) (link : Link) → item < length into →
    ((j : ℕ) → All (Q j) (get_or into j [])) → Q item link →
    (j : ℕ) → All (Q j) (get_or (set into item (get_or into item [] ++ link ∷ [])) j [])
All-put Q into item link inside all here j =
    let more : List Link = get_or into item [] ++ link ∷ [] in
    elim (cases_eq j item) [
      | inl same ↦
          let R : ℕ → Type 0 = λ k. All (Q k) (get_or (set into item more) k []) in
          let S : List Link → Type 0 = λ l. All (Q item) l in
          subst R (sym same) (subst S (sym (get_or-set_same into item more [] inside))
          (All-push (Q item) (get_or into item []) link (all item) here))
      | inr apart ↦
          let S : List Link → Type 0 = λ l. All (Q j) l in
          subst S (sym (get_or-set_other into item j more [] apart)) (all j)
    ]

-- One more link keeps a class's links true: it is behind those of its item, it comes from an earlier item and its rise is that of
-- the problem's own worths; all other items keep theirs. Whichever links are put in, a web of links says nothing false of the
-- problem; which ones they are decides only on what is found.
pub links-put : (p : Problem) (class item : ℕ) (c new : ClassLinks) (link : Link) → AreLinks p class c → new.single ≡ c.single →
    new.into.items ≡ set c.into.items item (get_or c.into.items item [] ++ link ∷ []) → item < p.items → IsReach item link →
    IsLinkInto p class item link → AreLinks p class new
links-put p class item c new link are single into below reach rise =
    let same = are.ranged.one_list in
    let inside : item < length c.into.items = omega arith in
    let all_reach = All-put (λ (j : ℕ). IsReach j) c.into.items item link inside are.ranged.reach reach in
    let all_rise = All-put (λ (j : ℕ). IsLinkInto p class j) c.into.items item link inside are.rises rise in
    record {
      ranged = record {
        one_single = ap (λ (l : List (Option ℤ)). length l) single ∙ are.ranged.one_single;
        one_list = ap (λ (l : List (List Link)). length l) into ∙ length-set c.into.items item (get_or c.into.items item [] ++ link ∷ [])
            ∙ are.ranged.one_list;
        singles = λ i. (let R : List (Option ℤ) → Type 0 = λ l. IsRanged (get_or l i None) in subst R (sym single) (are.ranged.singles i));
        reach = λ j. (let R : List (List Link) → Type 0 = λ l. All (IsReach j) (get_or l j []) in subst R (sym into) (all_reach j));
      };
      singles = λ i h. (let R : List (Option ℤ) → Type 0 = λ l. IsSingle p class i (get_or l i None) in
          subst R (sym single) (are.singles i h));
      rises = λ j. (let R : List (List Link) → Type 0 = λ l. All (IsLinkInto p class j) (get_or l j []) in subst R (sym into) (all_rise j));
    }

pub links-same : (p : Problem) (class : ℕ) (c new : ClassLinks) → AreLinks p class c → new.single ≡ c.single →
    new.into.items ≡ c.into.items → AreLinks p class new
links-same p class c new are single into =
    record {
      ranged = record {
        one_single = ap (λ (l : List (Option ℤ)). length l) single ∙ are.ranged.one_single;
        one_list = ap (λ (l : List (List Link)). length l) into ∙ are.ranged.one_list;
        singles = λ i. (let R : List (Option ℤ) → Type 0 = λ l. IsRanged (get_or l i None) in subst R (sym single) (are.ranged.singles i));
        reach = λ j. (let R : List (List Link) → Type 0 = λ l. All (IsReach j) (get_or l j []) in subst R (sym into) (are.ranged.reach j));
      };
      singles = λ i h. (let R : List (Option ℤ) → Type 0 = λ l. IsSingle p class i (get_or l i None) in
          subst R (sym single) (are.singles i h));
      rises = λ j. (let R : List (List Link) → Type 0 = λ l. All (IsLinkInto p class j) (get_or l j []) in
          subst R (sym into) (are.rises j));
    }

pub class-at : (p : Problem) (web : Web) (class : ℕ) (c d : ClassLinks) → IsWeb p web → class < length p.caps →
    c ≡ get_or web.classes.items class d → AreLinks p class c
class-at p web class c d are h is =
    let R : ClassLinks → Type 0 = λ x. AreLinks p class x in
    subst R (sym is) (are.links class d h)

-- a class of a web is exchanged for another
pub web-set : (p : Problem) (web new : Web) (class : ℕ) (c : ClassLinks) → IsWeb p web → class < length p.caps → AreLinks p class c →
    new.classes.items ≡ set web.classes.items class c → new.joined ≡ web.joined → IsWeb p new
web-set p web new class c are h here classes joined =
    let long = are.one_each in
    let inside : class < length web.classes.items = omega arith in
    record {
      one_each = ap (λ (l : List ClassLinks). length l) classes ∙ length-set web.classes.items class c ∙ are.one_each;
      links = λ k d b.
          (let R : List ClassLinks → Type 0 = λ l. AreLinks p k (get_or l k d) in
          let S : ClassLinks → Type 0 = λ x. AreLinks p k x in
          subst R (sym classes) (elim (cases_eq k class) [
            | inl same ↦
                let T : ℕ → Type 0 = λ n. AreLinks p n (get_or (set web.classes.items class c) n d) in
                let U : ClassLinks → Type 0 = λ x. AreLinks p class x in
                subst T (sym same) (subst U (sym (get_or-set_same web.classes.items class c d inside)) here)
            | inr apart ↦ subst S (sym (get_or-set_other web.classes.items class k c d apart)) (are.links k d b)
          ]));
      pairs = ap (λ l. length l) joined ∙ are.pairs;
    }

front-at : (xs : List ClassLinks) (x : ClassLinks) (k : ℕ) (d : ClassLinks) → k < length xs → get_or (xs ++ x ∷ []) k d ≡ get_or xs k d
front-at [] x k d h = absurd (omega arith)
front-at (y ∷ ys) x zero d h = refl
front-at (y ∷ ys) x (suc k) d h = front-at ys x k d (omega arith)

-- one more class
pub classes-push : (p : Problem) (xs : List ClassLinks) (x : ClassLinks) (n : ℕ) → length xs ≡ n →
    ((k : ℕ) (d : ClassLinks) → k < n → AreLinks p k (get_or xs k d)) → AreLinks p n x →
    (k : ℕ) (d : ClassLinks) → k < n + 1 → AreLinks p k (get_or (xs ++ x ∷ []) k d)
classes-push p xs x n len so_far here k d h =
    let P : ClassLinks → Type 0 = λ c. AreLinks p k c in
    elim (cases_eq k n) [
      | inl same ↦
          let Q : ℕ → Type 0 = λ m. AreLinks p m x in
          let at_end : length xs ≡ k = len ∙ sym same in
          subst P (sym (get_or_push xs x d k at_end)) (subst Q (sym same) here)
      | inr apart ↦
          let below : k < n = omega arith in
          let inside : k < length xs = omega arith in
          subst P (sym (front-at xs x k d inside)) (so_far k d below)
    ]
