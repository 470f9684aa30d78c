use mathlib.Core.Path.{◌≡◌}
use lib.ListN.{drop}
use Rattle.definition.specs.Lists.{concat_map}
use Rattle.definition.specs.Sheet.{question_of, first_failing, predicate_checks}
use Rattle.definition.proofs.SheetLaws.{predicates_answer}
use Rattle.sheet_check.proofs.checks.check_predicates.Given as goal

-- the checks from predicate p on give the answer of all
abbrev pub invariant-loop-p : goal.invariant-loop-p
invariant-loop-p l = first_failing (concat_map (predicate_checks (question_of l.sheet.bytes.now)) (drop l.p (question_of l.sheet.bytes.now).predicates))
    ≡ predicates_answer (question_of l.sheet.bytes.now)
