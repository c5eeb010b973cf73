use Rattle.std.proofs.Common.{◌≡◌, ◌≢◌, ◌++◌, sym, ◌∙◌, ap, map, List, ℕ, true, is_ok}
use Rattle.csv.specs.declared.writer.QuoteStyle.TheVariants as style
use Rattle.crn_rows.specs.Rows.{row_text}
use Rattle.crn_rows.proofs.Plainness.{row_written, ok_of}
use Rattle.crn_rows.proofs.sheet.Sheet.with_row.Goals as goal

pub returns : goal.returns
returns c =
    let ready = c.self.invariant in
    let plain : c.self.inside.writer.cfg.style ≢ style.NonNumeric = rw ready.setup (λ e. cc e) in
    let good : is_ok c.write_fields.result ≡ true = rw c.in_ok-map_err.was at (sym c.map_err.ensures.variant) in
    let sent = ok_of c.write_fields.result good c.write_fields.ensures.bytes ready.fields ready.wrote plain in
    let text = (rw (ready.setup, row_written true (map (λ f. f.now) c.args.fields.now) c.requires) at sent) in
    text ∙ ap (λ (t : List ℕ). t ++ row_text (map (λ f. f.now) c.args.fields.now)) c.self.view_is
