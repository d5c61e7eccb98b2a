-- Two days that are alike have the same markings of blocks and duties, and so the same certificates.
use Rattle.std.proofs.Common.{◌≡◌, ℕ, ℤ, pos, ◌+ℤ◌, ◌-ℤ◌, ◌+◌, ◌*◌, ◌&&◌, Bool, true, false, cond, List, Option, Some, ap, ◌∙◌, subst}
use Rattle.std.proofs.Math.Path.{fun_ext}
use Rattle.std.specs.Prelude.{length, nat_lt, nat_le, option_and_then}
use Rattle.plan_core.specs.declared.Price.{Price}
use Rattle.plan_core.specs.declared.types.Point.{Point}
use Rattle.plan_core.specs.declared.types.Piece.{Piece as WorkPiece}
use Rattle.vdv451_text.specs.Plain.{text}
use Rattle.cover_core.specs.declared.Column.{Column}
use Rattle.cover_core.specs.declared.marks.BlockMark.{BlockMark}
use Rattle.cover_core.specs.Plans.{price_at}
use Rattle.day_method.specs.Method.{SidePlan}
use Rattle.dual_bound.specs.declared.kept.Kept.{Kept}
use Rattle.mark_cover.specs.Covers.{IsMarkCover}
use Rattle.mark_cover.specs.Minimal.{AreMinimal}
use Rattle.block_cover.specs.Seen.{mark_order as block_order}
use Rattle.plan_cert.specs.declared.cert.CertPart.{CertPart}
use Rattle.trip_times.specs.declared.trip.Trip.{Trip}
use Rattle.deadheads.specs.declared.moves.Ends.{Ends}
use Rattle.deadheads.specs.DeadTimes.{dead_on}
use Rattle.plan_params.specs.declared.rows.ParamRows.{ParamRows}
use Rattle.plan_params.specs.declared.rows.pool.Pool.{Pool}
use Rattle.day_model.specs.declared.link.Link.{Link}
use Rattle.day_model.specs.Facts.{DayFacts, admits, dead}
use Rattle.day_model.specs.Links.{depot_over, direct_over, first_of, given, link, pull_in, pull_out, pull_out_over, with_pool, with_trip}
use Rattle.day_model.specs.Pieces.{longest_driving}
use Rattle.mark_cover.specs.Marking.{Marking}
use Rattle.depot_network.specs.BlockMarks.{block_marking, closed_value, extended_mark, extended_over, first_mark, is_as_good, kept, mark}
use Rattle.depot_network.specs.Driving.{trip_seconds}
use Rattle.depot_network.specs.Open.{scaled}
use Rattle.block_cut.specs.Cuts.{pieces_of_plan}
use Rattle.duty_network.specs.Duties.{DutyFacts}
use Rattle.plan_cert.specs.declared.cert.Cert.{Cert}
use Rattle.plan_cert.specs.Shapes.{class_numbers_of}
use Rattle.plan_cert.specs.Writing.{tables_of}
use Rattle.plan_command.specs.Alike.{AreAlike}
use Rattle.plan_command.proofs.AlikeDays.{plans_alike, same_pieces}
use Rattle.plan_certify.specs.Alike.{HaveSameCertificates}
use Rattle.plan_certify.specs.Certificate.{IsBlockPartOf, IsCertOf, IsDutyPartOf, duty_facts}

-- Deadheads are told by their times alone, so each function of open blocks is the same over another list that tells the same times.
module _ (a : DayFacts) (d : List (Ends × ℕ)) (same : (x y : Point) → dead a x y ≡ dead_on d x y) where
  abbrev told : DayFacts
  told = record a { deads = d }

  outs_same : pull_out a ≡ pull_out told
  outs_same = fun_ext (λ pool. fun_ext (λ t. ap (λ o. pull_out_over t o) (same pool.depot t.from)))

  ins_same : pull_in a ≡ pull_in told
  ins_same = fun_ext (λ pool. fun_ext (λ t. same t.to pool.depot))

  link_same : (pool : Pool) (t u : Trip) → link a pool t u ≡ link told pool t u
  link_same pool t u =
      ap (λ o. first_of (direct_over a.params.settings t u o) (depot_over t u (dead a t.to pool.depot) (dead a pool.depot u.from)))
      (same t.to u.from)
      ∙ ap (λ o. first_of (direct_over a.params.settings t u (dead_on d t.to u.from)) (depot_over t u o (dead a pool.depot u.from)))
      (same t.to pool.depot)
      ∙ ap (λ o. first_of (direct_over a.params.settings t u (dead_on d t.to u.from)) (depot_over t u (dead_on d t.to pool.depot) o))
      (same pool.depot u.from)

  links_same : link a ≡ link told
  links_same = fun_ext (λ pool. fun_ext (λ t. fun_ext (λ u. link_same pool t u)))

  first_same : (counts : Bool) (prices : List Price) → first_mark a counts prices ≡ first_mark told counts prices
  first_same counts prices =
      fun_ext (λ class. fun_ext (λ k.
      ap (λ (outs : Pool → Trip → Option ℕ). with_pool a class
      (λ pool. with_trip a k (λ t. given (admits a t.line pool.typ) (option_and_then (λ out.
      kept (mark class k (out + trip_seconds t)
      (cond counts (pos 1000) (pos (1000 * (pool.fixed + pool.dead_rate * out))) -ℤ price_at prices k))) (outs pool t))))) outs_same))

  extended_same : (counts : Bool) (prices : List Price) → extended_mark a counts prices ≡ extended_mark told counts prices
  extended_same counts prices =
      fun_ext (λ m. fun_ext (λ k.
      ap (λ (links : Pool → Trip → Trip → Option Link). with_pool a m.class
      (λ pool. with_trip a m.trip (λ t. with_trip a k (λ u. given (nat_lt m.trip k && admits a u.line pool.typ)
      (option_and_then (extended_over a counts prices pool m k u) (links pool t u)))))) links_same))

  closed_same : (counts : Bool) → closed_value a counts ≡ closed_value told counts
  closed_same counts =
      fun_ext (λ m.
      ap (λ (ins : Pool → Trip → Option ℕ). with_pool a m.class (λ pool. with_trip a m.trip (λ t. option_and_then (λ inward.
      given (nat_le (m.driving + inward) longest_driving) (Some (m.value +ℤ scaled counts (pool.dead_rate * inward)))) (ins pool t))))
      ins_same)

  -- A marking is a record of functions: how lists start, go on and close. Each asks deadheads only through pull-outs, links and
  -- pull-ins, which are equal as functions (`outs_same`, `links_same`, `ins_same`), so the markings are equal, and with them covers
  -- and least covers without a word on search.
  pub marking_same : (counts : Bool) (prices : List Price) → block_marking a counts prices ≡ block_marking told counts prices
  marking_same counts prices =
      let marking : (ℕ → ℕ → Option BlockMark) → (BlockMark → ℕ → Option BlockMark) → (BlockMark → Option ℤ) → Marking BlockMark =
      λ start extend close.
      record {
        items = length a.trips;
        classes = length a.params.pools;
        start = start;
        extend = extend;
        close = close;
        good =
            is_as_good;
        class_of = λ m. m.class;
        last = λ m. m.trip;
      } in
      ap (λ start. marking start (extended_mark a counts prices) (closed_value a counts)) (first_same counts prices)
      ∙ ap (λ extend. marking (first_mark told counts prices) extend (closed_value a counts)) (extended_same counts prices)
      ∙ ap (λ close. marking (first_mark told counts prices) (extended_mark told counts prices) close) (closed_same counts)

module _ (one other : DayFacts) (alike : AreAlike one other) where
  -- the one day with trips and settings, and with the deadheads of the other
  abbrev with : List Trip → ParamRows → DayFacts
  with trips params = record { kind = one.kind; rows = one.rows; trips = trips; params = params; deads = other.deads }

  marking_alike : (counts : Bool) (prices : List Price) → block_marking one counts prices ≡ block_marking other counts prices
  marking_alike counts prices =
      marking_same one other.deads alike.deads counts prices
      ∙ ap (λ trips. block_marking (with trips one.params) counts prices) alike.trips
      ∙ ap (λ params. block_marking (with other.trips params) counts prices) alike.params

  duties_alike : (blocks : List Column) (counts : Bool) → duty_facts one blocks counts ≡ duty_facts other blocks counts
  duties_alike blocks counts =
      let over : (List Column → List WorkPiece) → ParamRows → DutyFacts =
      λ pieces params. record { pieces = pieces blocks; params = params; counts = counts } in
      ap (λ pieces. over pieces one.params) (same_pieces one other alike) ∙ ap (λ params. over (pieces_of_plan other) params) alike.params

  classes_alike : class_numbers_of one ≡ class_numbers_of other
  classes_alike = ap (λ params. class_numbers_of (record one { params = params })) alike.params

  block_part_alike : (counts : Bool) (offer : Kept) (part : CertPart) → IsBlockPartOf one counts offer part →
      IsBlockPartOf other counts offer part
  block_part_alike counts offer part h =
      let same = marking_alike counts offer.prices.items in
      let P : Marking BlockMark → Type 0 = λ m. AreMinimal m block_order part.blocks.marks in
      let Q : Marking BlockMark → Type 0 = λ m. IsMarkCover m part.blocks.marks offer.class_prices in
      record {
        prices = h.prices;
        class_prices = h.class_prices;
        least = subst P same h.least;
        covers =
            subst Q same h.covers;
        none = h.none;
      }

  duty_part_alike : (blocks : List Column) (counts : Bool) (offer : Kept) (part : CertPart) →
      IsDutyPartOf (duty_facts one blocks counts) offer part
      → IsDutyPartOf (duty_facts other blocks counts) offer part
  duty_part_alike blocks counts offer part h =
      let P : DutyFacts → Type 0 = λ over. IsDutyPartOf over offer part in subst P (duties_alike blocks counts) h

  certs_alike : (blocks duties : SidePlan) (cert : Cert) → IsCertOf one blocks duties cert → IsCertOf other blocks duties cert
  certs_alike blocks duties cert h = record {
    block_number = h.block_number;
    block_cost = h.block_cost;
    duty_number = h.duty_number;
    duty_cost = h.duty_cost;
    parts = h.parts;
    of_block_number = block_part_alike true blocks.count h.block_number h.of_block_number;
    of_block_cost = block_part_alike false blocks.cost h.block_cost h.of_block_cost;
    of_duty_number = duty_part_alike blocks.columns true duties.count h.duty_number h.of_duty_number;
    of_duty_cost = duty_part_alike blocks.columns false duties.cost h.duty_cost h.of_duty_cost;
  }

  -- The plan is one of both days (`plans_alike`), each part is one of both since markings and pieces are (`certs_alike`), and the text
  -- tells of the day only the numbers of its classes.
  pub same_certificates : HaveSameCertificates one other
  same_certificates = λ asked bytes h. record {
    blocks = h.blocks;
    duties = h.duties;
    plan = plans_alike one other alike asked h.blocks h.duties h.plan;
    cert = h.cert;
    parts = certs_alike h.blocks h.duties h.cert h.parts;
    written = h.written ∙ ap (λ classes. text (tables_of classes h.cert)) classes_alike;
  }
