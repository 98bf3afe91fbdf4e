-- Widths that serve one row more.
use Rattle.std.specs.Prelude.{max}
use Rattle.def_see.specs.declared.row.Row.{Row}
use Rattle.def_see.specs.declared.row.Widths.{Widths}
use Rattle.def_see.specs.Table.{width}

unfoldable pub wider : Row → Widths → Widths
wider r w = record {
  message = max (width r.message) w.message;
  what = max (width r.what) w.what;
  sent = max (width r.sent) w.sent;
  carried = max (width r.carried) w.carried;
  fate = max (width r.fate) w.fate;
}
