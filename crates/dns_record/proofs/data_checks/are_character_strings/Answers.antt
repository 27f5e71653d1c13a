use Rattle.std.proofs.Common.{arith, sym}
use Rattle.std.proofs.lemmas.Bool.Decides.{nat_tests}
use Rattle.dns_record.proofs.TestedOctets.{character_strings_start, character_strings_step, character_strings_bad, character_strings_done, none_read, many_read, text_shorter}
use Rattle.dns_record.proofs.data_checks.are_character_strings.Goals as goal
use Rattle.dns_record.proofs.data_checks.are_character_strings.Goals.{then-is_empty-via-then-is_empty, then-is_empty-via-else-is_empty+then-bytes-gt-MAX_DATA_SIZE}

pub returns-then-is_empty : goal.returns-then-is_empty
returns-then-is_empty c =
    elim c.then-is_empty.branch [
      | then-is_empty-via-then-is_empty w ↦ sym (none_read _ (grind (arith, nat_tests, c.is_empty.ensures, w.if-is_empty)))
      | then-is_empty-via-else-is_empty+then-bytes-gt-MAX_DATA_SIZE w ↦ sym (many_read _ (grind (arith, nat_tests, w.if-bytes-gt-MAX_DATA_SIZE)))
    ]

pub loop-rest-init : goal.loop-rest-init
loop-rest-init c = character_strings_start _ (grind (arith, nat_tests)) (grind (arith, nat_tests))

pub returns-in_default : goal.returns-in_default
returns-in_default c = sym (character_strings_bad _ _ c.loop-rest.invariant (grind (arith, nat_tests)) c.in_default.ensures.exact)

pub loop-rest-smaller : goal.loop-rest-smaller
loop-rest-smaller c = text_shorter _ _ _ c.in-Ok.ensures.exact

pub loop-rest-preserved : goal.loop-rest-preserved
loop-rest-preserved c = character_strings_step _ _ _ _ c.loop-rest.invariant (grind (arith, nat_tests)) c.in-Ok.ensures.exact

pub returns : goal.returns
returns c = sym (character_strings_done _ _ c.loop-rest.invariant (grind (arith, nat_tests)))
