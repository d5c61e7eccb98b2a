use Rattle.std.proofs.Common.{◌≡◌, ◌<◌, ◌↔◌, List, All, IsNone, IfSome, ap, subst}
use Rattle.vdv452_rows.specs.declared.rows.VersionRow.{VersionRow}
use Rattle.vdv452_tables.specs.Calendar.{IsInForce, Net, begun, latest}
use Rattle.vdv452_tables.proofs.VersionLemmas.{in_force, latest_tells, none_in_force}
use Rattle.vdv452_tables.proofs.network.Network.version_at.Goals as goal

pub returns-clause-in_force : goal.returns-clause-in_force
returns-clause-in_force c =
    let rows = c.as_slice.result.now in
    let day = c.args.day in
    let rows_are : rows ≡ c.args.self.now.versions = cc (c.as_slice.ensures, ap (λ (n : Net). n.versions) c.self.view_is) in
    let told : IfSome c.version_in.result (IsInForce rows day) =
    rw c.version_in.ensures (in_force rows day (latest (begun rows day)) (latest_tells rows day)) in
    subst (λ (rs : List VersionRow). IfSome c.version_in.result (IsInForce rs c.args.day)) rows_are told

pub returns-clause-none : goal.returns-clause-none
returns-clause-none c =
    let rows = c.as_slice.result.now in
    let day = c.args.day in
    let rows_are : rows ≡ c.args.self.now.versions = cc (c.as_slice.ensures, ap (λ (n : Net). n.versions) c.self.view_is) in
    let told : IsNone c.version_in.result ↔ All (λ row. day < row.day) rows =
    rw c.version_in.ensures (none_in_force rows day (latest (begun rows day)) (latest_tells rows day)) in
    subst (λ (rs : List VersionRow). IsNone c.version_in.result ↔ All (λ row. c.args.day < row.day) rs) rows_are told
