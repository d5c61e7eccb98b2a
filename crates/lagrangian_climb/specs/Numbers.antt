-- Inner: the numbers of a price step.
use Rattle.std.specs.Prelude.{ℕ, ℤ, pos, ◌+ℤ◌, ◌-ℤ◌, ◌*ℤ◌, int_div, int_lt, Bool, cond, ◌*◌, ◌/◌, min}
use Rattle.std.specs.Int.{int_max}

-- how far an item is from being covered once; a fixed one is
abbrev pub lack_of : Bool → ℕ → ℤ
lack_of fixed times = cond fixed (pos 0) (pos 1 -ℤ pos times)

-- a direction in eighths: six eighths of the one before, and two of this price step
abbrev pub direction_of : ℤ → ℤ → ℤ
direction_of old lack = int_div ((pos 6 *ℤ old) +ℤ (pos 16 *ℤ lack)) (pos 8)

-- the distance to the aim, at least a small part of the aim, and at least 1
abbrev pub gap_of : ℤ → ℤ → ℤ
gap_of aim bound = int_max (int_max (aim -ℤ bound) (int_div aim (pos 2048))) (pos 1)

-- the size of a price step, in 1,024ths
abbrev pub unit_of : ℕ → ℕ → ℕ → ℕ
unit_of pace gap square = min ((8 * pace) * gap / square) 1000000000000

-- a number kept from a low one to a high one
abbrev pub kept_within : ℤ → ℤ → ℤ → ℤ
kept_within low high z = cond (int_lt z low) low (cond (int_lt high z) high z)

-- a price after a price step
abbrev pub moved_of : ℤ → ℤ → ℤ → ℤ → ℤ → ℤ
moved_of low high unit direction price = kept_within low high (price +ℤ int_div (unit *ℤ direction) (pos 1024))
