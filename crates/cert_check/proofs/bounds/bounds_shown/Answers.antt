use Rattle.std.proofs.Common.{◌≡◌, ◌≤◌, ℕ, zero, List, length, map, ap, ◌∙◌, subst, sym}
use Rattle.trip_times.specs.declared.trip.Trip.{Trip}
use Rattle.plan_params.specs.declared.rows.ParamRows.{ParamRows}
use Rattle.plan_params.specs.declared.rows.pool.Pool.{Pool}
use Rattle.plan_params.specs.declared.rows.group.Group.{Group}
use Rattle.plan_cert.specs.declared.cert.CertPart.{CertPart}
use Rattle.plan_cert.specs.Laws.{AreParts}
use Rattle.plan_cert.specs.Shapes.{shape_of}
use Rattle.cert_check.specs.Judging.{Case}
use Rattle.cert_check.specs.Reasons.{AllCharged, AreShown, IsFirstTooHigh, printed_pieces}
use Rattle.cert_check.specs.Steps.{AreBounding, AreLow, IsFirstHigh}
use Rattle.cert_check.proofs.FourBounds.{four-bounds}
use Rattle.cert_check.proofs.Highs.{all-low, first-high, group_caps, parts-bounding, pool_caps}
use Rattle.cert_check.proofs.bounds.bounds_shown.Goals as goal

pub four_parts-requires : goal.four_parts-requires
four_parts-requires c =
    (shape_of c.args.case.now.day (length (printed_pieces c.args.case.now c.args.blocks.now)), c.requires.is_charged.has_cert.parts)

pub high_in-requires-clause-four : goal.high_in-requires-clause-four
high_in-requires-clause-four c =
    ap (λ (bs : List ℕ). length bs) c.as_slice.ensures
    ∙ four-bounds c.args.case.now.day c.args.case.now.plan c.args.text.now
    c.requires.is_charged.has_cert.has_tables.has_duties.has_blocks.said

pub high_in-requires-clause-bounding : goal.high_in-requires-clause-bounding
high_in-requires-clause-bounding c =
    let k = c.args.case.now in
    let pools : c.pools.result.now ≡ k.day.params.pools =
    c.pools.ensures.rows ∙ (ap (λ (p : ParamRows). p.pools) c.params-params.ensures.settings
    ∙ ap (λ (k : Case). k.day.params.pools) c.case.view_is) in
    let groups : c.groups.result.now ≡ k.day.params.groups =
    c.groups.ensures.rows ∙ (ap (λ (p : ParamRows). p.groups) c.params-params.ensures.settings
    ∙ ap (λ (k : Case). k.day.params.groups) c.case.view_is) in
    let caps : c.in_ok-pool_caps.field-0.items ≡ pool_caps k.day =
    c.in_ok-pool_caps.ensures ∙ ap (λ (ps : List Pool). map (λ (pool : Pool). pool.cap) ps) pools in
    let caps' : c.in_ok-group_caps.field-0.items ≡ group_caps k.day =
    c.in_ok-group_caps.ensures ∙ ap (λ (gs : List Group). map (λ (group : Group). group.cap) gs) groups in
    let pieces = length (printed_pieces k c.args.blocks.now) in
    let parts = c.four_parts.result in
    let few : length k.day.trips ≤ 3000 =
    subst (λ (k : Case). length k.day.trips ≤ 3000) c.case.view_is
    (subst (λ (ts : List Trip). length ts ≤ 3000) c.trips.ensures.trips c.trips.ensures.few) in
    let bounding : AreBounding (pool_caps k.day) (group_caps k.day) parts =
    parts-bounding k.day pieces parts few c.requires.is_charged.has_cert.has_tables.fits.few
    (subst (λ (ps : List Pool). length ps ≤ 32) pools c.pools.ensures.few)
    (subst (λ (gs : List Group). length gs ≤ 32) groups c.groups.ensures.few)
    (subst (λ (ps : List CertPart). AreParts (shape_of k.day pieces) ps) c.four_parts.ensures c.requires.is_charged.has_cert.parts)
    (subst AllCharged c.four_parts.ensures c.requires.is_charged.charged) in
    subst (λ (ps : List ℕ). AreBounding ps c.in_ok-group_caps.field-0.items parts) (sym caps)
    (subst (λ (gs : List ℕ). AreBounding (pool_caps k.day) gs parts) (sym caps') bounding)

pub returns-in-None-clause-shown : goal.returns-in-None-clause-shown
returns-in-None-clause-shown c =
    let k = c.args.case.now in
    let pools : c.pools.result.now ≡ k.day.params.pools =
    c.pools.ensures.rows ∙ (ap (λ (p : ParamRows). p.pools) c.params-params.ensures.settings
    ∙ ap (λ (k : Case). k.day.params.pools) c.case.view_is) in
    let groups : c.groups.result.now ≡ k.day.params.groups =
    c.groups.ensures.rows ∙ (ap (λ (p : ParamRows). p.groups) c.params-params.ensures.settings
    ∙ ap (λ (k : Case). k.day.params.groups) c.case.view_is) in
    let caps : c.in_ok-pool_caps.field-0.items ≡ pool_caps k.day =
    c.in_ok-pool_caps.ensures ∙ ap (λ (ps : List Pool). map (λ (pool : Pool). pool.cap) ps) pools in
    let caps' : c.in_ok-group_caps.field-0.items ≡ group_caps k.day =
    c.in_ok-group_caps.ensures ∙ ap (λ (gs : List Group). map (λ (group : Group). group.cap) gs) groups in
    let parts = c.four_parts.result in
    let bounds = c.args.text.now.bounds in
    let low : AreLow bounds (pool_caps k.day) (group_caps k.day) parts =
    subst (λ (gs : List ℕ). AreLow bounds (pool_caps k.day) gs parts) caps'
    (subst (λ (ps : List ℕ). AreLow bounds ps c.in_ok-group_caps.field-0.items parts) caps
    (subst (λ (bs : List ℕ). AreLow bs c.in_ok-pool_caps.field-0.items c.in_ok-group_caps.field-0.items parts) c.as_slice.ensures
    c.in-None.ensures.none)) in
    record {
      is_covered = c.requires;
      shown = subst (λ (ps : List CertPart). AreShown k c.args.blocks.now bounds zero ps) (sym c.four_parts.ensures)
          (all-low k c.args.blocks.now bounds parts low);
    }

pub returns-clause-stop : goal.returns-clause-stop
returns-clause-stop c =
    let k = c.args.case.now in
    let pools : c.pools.result.now ≡ k.day.params.pools =
    c.pools.ensures.rows ∙ (ap (λ (p : ParamRows). p.pools) c.params-params.ensures.settings
    ∙ ap (λ (k : Case). k.day.params.pools) c.case.view_is) in
    let groups : c.groups.result.now ≡ k.day.params.groups =
    c.groups.ensures.rows ∙ (ap (λ (p : ParamRows). p.groups) c.params-params.ensures.settings
    ∙ ap (λ (k : Case). k.day.params.groups) c.case.view_is) in
    let caps : c.in_ok-pool_caps.field-0.items ≡ pool_caps k.day =
    c.in_ok-pool_caps.ensures ∙ ap (λ (ps : List Pool). map (λ (pool : Pool). pool.cap) ps) pools in
    let caps' : c.in_ok-group_caps.field-0.items ≡ group_caps k.day =
    c.in_ok-group_caps.ensures ∙ ap (λ (gs : List Group). map (λ (group : Group). group.cap) gs) groups in
    let parts = c.four_parts.result in
    let bounds = c.args.text.now.bounds in
    let found = c.in-Some.found in
    let high : IsFirstHigh bounds (pool_caps k.day) (group_caps k.day) parts found =
    subst (λ (gs : List ℕ). IsFirstHigh bounds (pool_caps k.day) gs parts found) caps'
    (subst (λ (ps : List ℕ). IsFirstHigh bounds ps c.in_ok-group_caps.field-0.items parts found) caps
    (subst (λ (bs : List ℕ). IsFirstHigh bs c.in_ok-pool_caps.field-0.items c.in_ok-group_caps.field-0.items parts found) c.as_slice.ensures
    c.in-Some.ensures.some)) in (
      c.args.text.now,
      c.args.blocks.now,
      c.args.duties.now,
      c.args.cert.now,
      c.requires,
      subst (λ (ps : List CertPart). IsFirstTooHigh k c.args.blocks.now bounds zero ps found.pass found.printed found.shown)
          (sym c.four_parts.ensures) (first-high k c.args.blocks.now bounds parts found high),
    )
