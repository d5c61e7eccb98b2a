use Rattle.std.proofs.Common.{◌≡◌, ◌*◌, ◌≤◌, drop}
use Rattle.vdv452_tables.specs.LookUps.{links_from}
use Rattle.place_net.specs.Routes.{length_over, section_length}
use Rattle.place_net.proofs.LengthLemmas.{length_on_top}
use Rattle.place_net.proofs.lengths.length_from.Given as goal

-- The metres so far and what is left make the whole: what is left is added on top of them, if each section left has a length; so at
-- the first section without one the answer is none, whatever was added before. Each section has at most 1,000,000 metres, so the
-- number of sections passed bounds the sum, which therefore stays within 64 bits.
abbrev pub invariant-loop-to : goal.invariant-loop-to
invariant-loop-to l = record {
  bounded : l.metres ≤ 1000000 * l.to-index;
  whole : length_on_top (section_length l.net l.version l.area) l.metres (links_from l.from (drop l.to-index l.points))
      ≡ length_over (section_length l.net l.version l.area) (links_from l.fn.first l.points);
}
