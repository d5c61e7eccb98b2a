-- Inner: prices under which no list is worth its while that goes on behind an end.
use Rattle.std.specs.Prelude.{ℕ, negsuc, ◌-◌, List, ◌++◌, take, replicate, length}
use Rattle.plan_core.specs.declared.types.Price.{Price}

-- the prices of the pieces before an end, and of the others the least price that there is
abbrev pub priced_before : ℕ → List Price → List Price
priced_before end prices = take end prices ++ replicate (length prices - end) (record { 0 = negsuc 9999999999999 })
