-- A text that is read or written piece by piece.
use Rattle.std.proofs.Common.{◌≡◌, ℕ, ◌+◌, ◌-◌, ◌<◌, ◌≤◌, List, [], ◌∷◌, ◌++◌, length, take, drop, Option, Some, None, IfSome, refl, sym, ap, ◌∙◌, append_assoc, arith, length-drop, Ok}
use Rattle.std.proofs.Math.Seq.{take-add}
use Rattle.std.proofs.lemmas.List.{append-nil, drop-drop, take-append-drop}
use Rattle.plan_core.specs.Outside.{ReadsAt, Takes}

-- One more piece is taken. What was taken so far is the initial part of the text up to a place, and the piece stands there, so the bytes of
-- it that are taken make that part longer by as many, and none is left out or taken twice.
pub piece_taken :
    (E : Type 0) (taken now next : Option (List ℕ)) (text piece : List ℕ) (at count : ℕ) → piece ≡ drop at text →
    IfSome taken (λ old. now ≡ Some (old ++ take at text)) → Takes {E = E} now next piece (Ok count) →
    IfSome taken (λ old. next ≡ Some (old ++ take (at + count) text))
piece_taken E None now next text piece at count p so_far takes = tt
piece_taken E (Some old) now next text piece at count p so_far takes =
    let step : next ≡ Some ((old ++ take at text) ++ take count piece) = rw so_far at takes in
    let longer : take at text ++ take count piece ≡ take (at + count) text =
    ap (λ (t : List ℕ). take at text ++ take count t) p ∙ sym (take-add at count text) in
    step ∙ ap (λ (t : List ℕ). Some t) (append_assoc old (take at text) (take count piece) ∙ ap (λ (t : List ℕ). old ++ t) longer)

-- One more piece is read. What was read so far and what the file holds from there on are what it holds; the piece is the initial part of
-- the latter, and so the two still are what it holds after the piece has gone from one to the other.
pub piece_read :
    (first now : Option (List ℕ)) (bytes buf : List ℕ) (at count : ℕ) → now ≡ first → IfSome first (λ held. bytes ++ drop at held ≡ held) →
    IfSome now (λ held. ReadsAt held at count buf) → IfSome first (λ held. (bytes ++ take count buf) ++ drop (at + count) held ≡ held)
piece_read None now bytes buf at count e so_far reads = tt
piece_read (Some held) now bytes buf at count e so_far reads =
    let piece : ReadsAt held at count buf = rw e at reads in
    let rest : take count buf ++ drop (at + count) held ≡ drop at held =
    ap (λ (t : List ℕ). t ++ drop (at + count) held) piece.bytes
    ∙ ap (λ (t : List ℕ). take count (drop at held) ++ t) (sym (drop-drop count at held))
    ∙ take-append-drop count (drop at held) in
    append_assoc bytes (take count buf) (drop (at + count) held) ∙ ap (λ (t : List ℕ). bytes ++ t) rest ∙ so_far

no_rest : (xs : List ℕ) → length xs ≡ 0 → xs ≡ []
no_rest [] h = refl
no_rest (x ∷ xs) h = absurd (omega (arith, h))

-- A read of no byte into room that is there says that the place is at or behind the file's end (`ends`). So of what was read so far
-- and what the file holds from that place on, which together are all that it holds (`piece_read`), the latter is empty. So the loop of
-- `read_pieces` may end there with the clause `bytes`.
pub all_read :
    (first now : Option (List ℕ)) (bytes buf : List ℕ) (at count : ℕ) → now ≡ first → IfSome first (λ held. bytes ++ drop at held ≡ held) →
    IfSome now (λ held. ReadsAt held at count buf) → count ≡ 0 → 0 < length buf → IfSome first (λ held. bytes ≡ held)
all_read None now bytes buf at count e so_far reads none room = tt
all_read (Some held) now bytes buf at count e so_far reads none room =
    let piece : ReadsAt held at count buf = rw e at reads in
    let at_end : length held ≤ at = piece.ends none room in
    let nothing : drop at held ≡ [] = no_rest (drop at held) (omega (arith, length-drop at held)) in
    sym (append-nil bytes) ∙ ap (λ (t : List ℕ). bytes ++ t) (sym nothing) ∙ so_far

-- a piece that goes above the greatest number is there
pub too_many :
    (first now : Option (List ℕ)) (buf : List ℕ) (at count most : ℕ) → now ≡ first → IfSome now (λ held. ReadsAt held at count buf) →
    at ≤ most → most - at < count → IfSome first (λ held. most < length held)
too_many None now buf at count most e reads within above = tt
too_many (Some held) now buf at count most e reads within above =
    let piece : ReadsAt held at count buf = rw e at reads in
    let there = piece.there in
    omega (arith, length-drop at held, there)

-- nothing is read yet
pub none_read :
    (first : Option (List ℕ)) (bytes : List ℕ) (at : ℕ) → bytes ≡ [] → at ≡ 0 → IfSome first (λ held. bytes ++ drop at held ≡ held)
none_read None bytes at e z = tt
none_read (Some held) bytes at e z = rw (e, z) refl
