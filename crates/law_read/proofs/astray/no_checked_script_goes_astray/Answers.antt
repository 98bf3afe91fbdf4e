use Rattle.law_read.proofs.ReadScripts.Checked.{no_checked_script_goes_astray}
use Rattle.law_read.proofs.astray.no_checked_script_goes_astray.Goals as goal

pub returns : goal.returns
returns c = no_checked_script_goes_astray
