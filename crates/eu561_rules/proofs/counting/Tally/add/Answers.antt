use Rattle.std.proofs.Common.{◌≤◌, [], ◌∷◌, ◌++◌, rules, subst, sym, ◌∙◌}
use Rattle.eu561_rules.specs.Summary.{Summary, StandsFor}
use Rattle.eu561_rules.proofs.Tallies.{StandsFor-after, same-empty, IsSmall-from}
use Rattle.eu561_rules.proofs.counting.Tally.add.Goals as goal

pub after-requires-clause-small : goal.after-requires-clause-small
after-requires-clause-small c = IsSmall-from _ _ c.requires.stands

pub returns-clause-drives : goal.returns-clause-drives
returns-clause-drives c = λ drives stands.
    let fits : c.args.drive.driving ≤ 4294967295 = search rules in
    let P : Summary → Type 0 = λ t. StandsFor t (drives ++ c.args.drive ∷ []) in
    subst P (sym c.after.ensures)
    (StandsFor-after c.args.self.now c.args.drive drives fits
    (λ empty. c.requires.begins (same-empty _ drives (sym c.requires.stands.count ∙ stands.count) empty))
    stands)
