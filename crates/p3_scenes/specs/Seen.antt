-- What a scene lends, as it is.
use Rattle.std.specs.Prelude.{◌≡◌, map}
use Rattle.p3_scenes.specs.Lent.{lent_words, lent_operator, lent_name}
use Rattle.p3_scenes.specs.Scenes.{Scene, SoftScene, StateScene, at_end}
use Rattle.p3_scenes.specs.declared.scene.InstanceScene.{InstanceScene}
use Rattle.p3_scenes.specs.declared.scene.OperatorScene.{OperatorScene}
use Rattle.p3_scenes.specs.declared.scene.PreferenceScene.{PreferenceScene}

abbrev pub seen : OperatorScene → Scene
seen scene = record { role = scene.role; word = scene.word; operator = lent_operator scene.operator; scope = lent_words scene.bindings.variables; slots = scene.bindings.objects }

abbrev pub seen_soft : InstanceScene → SoftScene
seen_soft scene = record { role = scene.role; at = scene.at; name = lent_name scene.name; scope = lent_words scene.bindings.variables; slots = scene.bindings.objects; operators = map seen scene.operators }

abbrev pub seen_pref : PreferenceScene → StateScene
seen_pref scene = record { at = scene.at; name = lent_name scene.name; word = scene.word; condition = scene.condition.now; scope = lent_words scene.bindings.variables; slots = scene.bindings.objects }

-- the preference of the goal, over the last state
abbrev pub IsOverLastState : StateScene → InstanceScene → Type 0
IsOverLastState preference scene = seen_soft scene ≡ at_end preference
