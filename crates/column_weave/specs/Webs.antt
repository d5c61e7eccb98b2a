-- Promise: links between items, by class: what they say of the problem.
use Rattle.std.specs.Prelude.{◌≡◌, ℕ, ℤ, pos, ◌-ℤ◌, ◌≤ℤ◌, ◌*◌, ◌<◌, [], ◌∷◌, length, Option, Some, None, IfSome, slice_index_or, All}
use Rattle.cover_core.specs.Cover.{Problem}
use Rattle.column_weave.specs.declared.link.Link.{Link}
use Rattle.column_weave.specs.declared.links.ClassLinks.{ClassLinks}
use Rattle.column_weave.specs.declared.web.Web.{Web}
use Rattle.column_weave.specs.Sums.{IsReach}

-- a thousand times a worth, where there is one
abbrev pub thousandfold : Option ℕ → Option ℤ
thousandfold None = None
thousandfold (Some worth) = Some (pos (1000 * worth))

-- a thousand times a worth is from 0 to 4,000,000,000,000, where there is one
pub record IsRanged (single : Option ℤ) : Type 0 where
  pub low : IfSome single (λ z. pos 0 ≤ℤ z)
  pub high : IfSome single (λ z. z ≤ℤ pos 4000000000000)

-- a thousand times the worth of an item alone, where it has one
pub record IsSingle (p : Problem) (class item : ℕ) (single : Option ℤ) : Type 0 where
  pub is : single ≡ thousandfold (p.worth class (item ∷ []))
  pub ranged : IsRanged single

-- the rise from an item to a later one: a thousand times what the list of both is worth more than the first alone
pub record IsRise (p : Problem) (class from item : ℕ) (rise : ℤ) : Type 0 where
  pub one : ℕ
  pub both : ℕ
  pub alone : p.worth class (from ∷ []) ≡ Some one
  pub pair : p.worth class (from ∷ item ∷ []) ≡ Some both
  pub is : rise ≡ pos (1000 * both) -ℤ pos (1000 * one)

-- a link into an item has the rise of its two items
abbrev pub IsLinkInto : Problem → ℕ → ℕ → Link → Type 0
IsLinkInto p class item link = IsRise p class link.from item link.rise

-- single items and links in range, one list of links for each of so many items
pub record AreRanged (items : ℕ) (c : ClassLinks) : Type 0 where
  pub one_single : length c.single ≡ items
  pub one_list : length c.into.items ≡ items
  pub singles : (item : ℕ) → IsRanged (slice_index_or c.single item None)
  pub reach : (item : ℕ) → All (IsReach item) (slice_index_or c.into.items item [])

-- the single items of a class of a problem, and links by the item that they lead into, with the rises of their pairs
pub record AreLinks (p : Problem) (class : ℕ) (c : ClassLinks) : Type 0 where
  pub ranged : AreRanged p.items c
  pub singles : (item : ℕ) → item < p.items → IsSingle p class item (slice_index_or c.single item None)
  pub rises : (item : ℕ) → All (IsLinkInto p class item) (slice_index_or c.into.items item [])

-- the links of each class of a problem, and a word for each pair of items
pub record IsWeb (p : Problem) (web : Web) : Type 0 where
  pub one_each : length web.classes.items ≡ length p.caps
  pub links : (class : ℕ) (d : ClassLinks) → class < length p.caps → AreLinks p class (slice_index_or web.classes.items class d)
  pub pairs : length web.joined ≡ p.items * p.items
