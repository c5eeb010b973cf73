use Rattle.std.proofs.Common.{Bor, List, ℕ, ◌≡◌, ◌∙◌, sym, refl, rules, inl, inr, true, Some, [], is_ok}
use Rattle.csv.specs.Reading.{Reached, default_config, strip_bom}
use Rattle.csv.specs.Records.{fields_of}
use Rattle.csv.specs.declared.parser.State.TheVariants as st
use Rattle.csv.proofs.ReadFacts.{rows-end, rows-more}
use Rattle.crn_rows.proofs.Plainness.{before_map}
use Rattle.crn_rows.proofs.Refusals.{stops}
use Rattle.crn_rows.proofs.reading.records.Goals as goal

pub loop-row-init : goal.loop-row-init
unfolding Reached
loop-row-init c =
    let fr = c.from_reader-reader.ensures in
    let start = c.into_iter-row-iterator.ensures.into_iter_gives ∙ refl in
    let reader = c.into_byte_records-row-items.ensures.rdr in
    let left = c.into_byte_records-row-items.ensures.left in
    rw (start, reader, c.new-rows.ensures.items) (
      rw (c.flexible.ensures, c.has_headers.ensures) at fr.trim ∙ c.new.ensures.trim,
      inr (inr (rw (c.flexible.ensures, c.has_headers.ensures) at fr.has_headers, fr.headers)),
      left,
      rw (c.flexible.ensures, c.has_headers.ensures) at fr.config ∙ c.new.ensures.config,
      rw c.flexible.ensures at fr.flexible,
      strip_bom c.args.text.now,
      fr.source,
      (sym fr.state, refl),
    )

pub map_err-requires : goal.map_err-requires
map_err-requires c = λ e err.
    let inv = c.loop-row.invariant in
    let why = rw (c.in-Some.is, err) at ((c.next.ensures.steps inv.2 inv.0).0 inv.1) in
    stops (λ (s : Bor (List ℕ)). Some s.now) c.loop-row.row-iterator.rdr c.next.new.self.rdr e.kind inv.4 why

pub loop-row-preserved : goal.loop-row-preserved
loop-row-preserved c =
    let inv = c.loop-row.invariant in
    let row = before_map c.in-Some.row c.map_err.result c.in_ok-map_err.field-0 _ c.in_ok-map_err.was c.map_err.ensures.cases in
    let s = rw (c.in-Some.is, row) at ((c.next.ensures.steps inv.2 inv.0).0 inv.1) in
    let flexible = rw (c.in-Some.is, row) at ((c.next.ensures.steps inv.2 inv.0).3) in
    let good : is_ok c.push.result ≡ true = search rules in
    let items = rw good at c.push.ensures.items in
    let m = rows-more (λ (s : Bor (List ℕ)). Some s.now) c.loop-row.row-iterator.rdr c.next.new.self.rdr (fields_of c.in_ok-map_err.field-0) default_config st.StartRecord (strip_bom c.args.text.now) inv.5 c.loop-row.rows.items inv.3 inv.6 inv.7 s.0 in
    (s.0.3 ∙ inv.0, inl s.1, s.2, s.0.2 ∙ inv.3, flexible ∙ inv.4, m.0, m.1, rw (items, c.from_record.ensures) m.2)

pub returns : goal.returns
returns c =
    let inv = c.loop-row.invariant in
    let s = rw c.in-None.is at ((c.next.ensures.steps inv.2 inv.0).0 inv.1) in
    (c.loop-row.row-iterator.rdr.state, inv.5, inv.7, rows-end (λ (s : Bor (List ℕ)). Some s.now) c.loop-row.row-iterator.rdr c.next.new.self.rdr [] default_config inv.5 inv.3 inv.6 s)
