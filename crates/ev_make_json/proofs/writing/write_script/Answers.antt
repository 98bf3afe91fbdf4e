use Rattle.ev_make_json.proofs.Written.{whole, written_value, written_read}
use Rattle.ev_make_json.proofs.writing.write_script.Goals as goal

pub returns-clause-value : goal.returns-clause-value
returns-clause-value c = written_value c.args.told.now c.in_ok-to_string.field-0 (rw c.in_ok-value.ensures at c.in_ok-to_string.ensures.reads_back)

pub returns-clause-reads : goal.returns-clause-reads
returns-clause-reads c = written_read c.args.told.now _ (written_value c.args.told.now c.in_ok-to_string.field-0 (rw c.in_ok-value.ensures at c.in_ok-to_string.ensures.reads_back))

pub returns-clause-text : goal.returns-clause-text
returns-clause-text c = (rw c.in_ok-value.ensures at c.in_ok-to_string.ensures.text) (whole c.args.told.now)
