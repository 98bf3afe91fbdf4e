use Rattle.law_read.proofs.ReadScripts.NeverAstray.{no_read_script_goes_astray}
use Rattle.law_read.proofs.astray.no_read_script_goes_astray.Goals as goal

pub returns : goal.returns
returns c = no_read_script_goes_astray
