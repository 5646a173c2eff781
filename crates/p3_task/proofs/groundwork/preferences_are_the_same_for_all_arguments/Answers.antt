use Rattle.p3_task.proofs.PreferenceNameLaws.{prefs-names}
use Rattle.p3_task.proofs.groundwork.preferences_are_the_same_for_all_arguments.Goals as goal

pub returns : goal.returns
returns c = λ T env other g. prefs-names T g env other
