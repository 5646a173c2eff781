-- What the numbers of a task's tables stand for.
use Rattle.p3_hierarchy.specs.Objects.{object_names}
use Rattle.p3_numbers.specs.Tasks.{header_names}
use Rattle.p3_numbers.specs.declared.numbers.Numbers.{Numbers}
use Rattle.p3_resolve.specs.declared.tables.Tables.{Tables}
use Rattle.p3_task.specs.PreferenceNames.{ordered_names}

-- a predicate's or function's number is the place of the first that has its name
abbrev pub numbers_of : Tables → Numbers
numbers_of tables = record {
  predicates = header_names tables.task.now.domain.predicates;
  functions = header_names tables.task.now.domain.functions;
  objects = object_names tables.task.now;
  preferences = ordered_names tables.task.now;
  types = tables.lists.types;
  ranges = tables.lists.ranges;
}
