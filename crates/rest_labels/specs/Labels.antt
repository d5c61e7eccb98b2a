-- Promise: labels of the lists of a rest.
use Rattle.std.specs.Prelude.{◌≡◌, ℕ, Bool, true, false, cond, ◌&&◌, not, nat_eq, nat_lt, nat_le, List, [], ◌∷◌, length, Option, Some, None, slice_get, unwrap_or}
use Rattle.std.specs.Option.{option_map}
use Rattle.cover_core.specs.Labels.{Labelling, label_after, label_of}
use Rattle.cover_rest.specs.declared.begun.Begun.{Begun}
use Rattle.cover_rest.specs.Rest.{body_at}
use Rattle.rest_labels.specs.declared.label.RestLabel.{RestLabel}

-- a label of a list of the rest that ends with an item
abbrev pub ending : {L : Type 0} → ℕ → L → RestLabel L
ending x a = record { item = x; label = a }

-- whether an item may stand behind another: it comes later, is there, is no head, and more may follow the other
abbrev pub is_next : ℕ → (ℕ → Bool) → ℕ → ℕ → ℕ → Bool
is_next heads more count x y = (nat_lt x y && nat_lt y count) && (nat_le heads y && more x)

-- The labels of the lists of a rest: those of the written-out lists. Items of the rest stand for these bodies; the first so many are heads.
-- A list begins with an item where a test says so, and goes on behind one where another test does.
abbrev pub labels_of_rest : {L : Type 0} → Labelling L → List (List ℕ) → ℕ → (ℕ → Bool) → (ℕ → Bool) → Labelling (RestLabel L)
labels_of_rest w bs heads begins more = record {
  start = λ x. cond (nat_lt x (length bs) && begins x) (option_map (ending x) (label_of w (body_at bs x))) None;
  extend = λ a y. cond (is_next heads more (length bs) a.item y) (option_map (ending y) (label_after w (Some a.label) (body_at bs y))) None;
}

-- whether a list of a class may begin with a head, or with an item in no head
abbrev pub may_start : (ℕ → List ℕ → Bool) → ℕ → Option Begun → List ℕ → Bool
may_start may class None body = may class body
may_start may class (Some h) body = nat_eq h.class class

-- whether a list may go on behind a head, or behind an item in no head
abbrev pub may_follow : Option Begun → Bool
may_follow None = true
may_follow (Some h) = not h.finished

-- the labels of the lists of a rest in a class
abbrev pub rest_labels : {L : Type 0} → Labelling L → List Begun → List (List ℕ) → (ℕ → List ℕ → Bool) → ℕ → Labelling (RestLabel L)
rest_labels w heads bs may class =
    labels_of_rest w bs (length heads) (λ x. may_start may class (slice_get heads x) (body_at bs x)) (λ x. may_follow (slice_get heads x))

-- whether a place of a list of marks is set: not past its end
abbrev pub is_set : List Bool → ℕ → Bool
is_set marks x = unwrap_or (slice_get marks x) false

-- whether more may follow an item of the rest: it is no finished head
abbrev pub more_after : List Bool → ℕ → Bool
more_after ended x = not (is_set ended x)

-- the last item of the rest is the same, and the label is at least as good
abbrev pub rest_good : {L : Type 0} → (L → L → Bool) → RestLabel L → RestLabel L → Bool
rest_good good a b = nat_eq a.item b.item && good a.label b.label

-- the last item of a list
abbrev pub last_of : List ℕ → Option ℕ
last_of [] = None
last_of (x ∷ []) = Some x
last_of (x ∷ y ∷ rest) = last_of (y ∷ rest)

-- a sound label of a written-out list that ends with the last item of what the last item of the rest stands for
pub record RestSound {L : Type 0} (bs : List (List ℕ)) (last : L → ℕ) (sound : L → Type 0) (a : RestLabel L) : Type 0 where
  pub fits : sound a.label
  pub ends : (item : ℕ) → last_of (body_at bs a.item) ≡ Some item → last a.label ≡ item
