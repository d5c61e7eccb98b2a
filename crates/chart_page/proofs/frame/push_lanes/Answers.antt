use Rattle.chart_page.proofs.frame.push_lanes.Goals as goal

pub returns : goal.returns
returns c = rw (c.room_of-room.ensures, c.wide_of-wide.ensures) at c.push_parts.ensures
