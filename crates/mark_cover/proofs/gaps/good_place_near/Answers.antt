use Rattle.mark_cover.proofs.gaps.good_place_near.Goals as goal

pub good_place_before-requires : goal.good_place_before-requires
good_place_before-requires g c = c.in-None.ensures.none
