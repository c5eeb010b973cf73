-- A `csv` writer between two rows.
use Rattle.std.specs.Prelude.{◌≡◌, false, true}
use Rattle.csv.specs.Writing.{fields_written, has_written, writer_setup, default_writer, with_flexible}
use Rattle.csv.specs.declared.writer.Writer.{Writer}

-- a writer that stands between two rows, with the defaults but that rows may differ in their number of fields
pub record IsBetweenRows {W : Type 0} (w : Writer W) : Type 0 where
  pub fields : fields_written w ≡ 0
  pub wrote : has_written w ≡ false
  pub setup : writer_setup w ≡ with_flexible default_writer true
