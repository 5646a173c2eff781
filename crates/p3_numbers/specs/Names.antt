-- Tables of names, each name once.
use Rattle.std.specs.Prelude.{◌≡◌, ◌||◌, List, [], ◌∷◌, ◌++◌, fold, if◌then◌else◌}
use Rattle.std.specs.List.{list_any}
use Rattle.p3_task.specs.Names.{Name, same_names, has_name}

-- the new table has the names of the old one and those that are added
abbrev pub Adds : List Name → List Name → List Name → Type 0
Adds old added new = (name : Name) → has_name new name ≡ (has_name old name || has_name added name)

-- a name more, which goes last if it is new
abbrev pub with_name : List Name → Name → List Name
with_name names name = if has_name names name then names else names ++ name ∷ []

abbrev pub with_names : List Name → List Name → List Name
with_names old names = fold with_name old names

-- a list of names more, which goes last if it is new
abbrev pub with_list : List (List Name) → List Name → List (List Name)
with_list lists names = if list_any (λ other. same_names other names) lists then lists else lists ++ names ∷ []
