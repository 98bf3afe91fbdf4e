use Rattle.ev_sturdy.proofs.answers.push_answer.Goals as goal

pub returns-in-Taken : goal.returns-in-Taken
returns-in-Taken c = rw c.in-Taken.is c.push_object.ensures

pub returns-in-Down : goal.returns-in-Down
returns-in-Down c = rw c.in-Down.is c.push_text-in-Down.ensures

pub returns-in-Whole : goal.returns-in-Whole
returns-in-Whole c = rw c.in-Whole.is c.push_text-in-Whole.ensures

pub returns-in-Unknown : goal.returns-in-Unknown
returns-in-Unknown c = rw c.in-Unknown.is c.push_text-in-Unknown.ensures

pub returns-in-Nothing : goal.returns-in-Nothing
returns-in-Nothing c = rw c.in-Nothing.is c.push_text-in-Nothing.ensures
