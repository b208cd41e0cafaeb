-- Each text breaks one rule.
use Rattle.dk_lawful.proofs.BrokenRules as broken
use Rattle.dk_lawful.proofs.laws.broken_rules.Goals as goal

pub returns-clause-informed_twice : goal.returns-clause-informed_twice
returns-clause-informed_twice c = broken.informed_twice

pub returns-clause-sidecar_named : goal.returns-clause-sidecar_named
returns-clause-sidecar_named c = broken.sidecar_named

pub returns-clause-application_twice : goal.returns-clause-application_twice
returns-clause-application_twice c = broken.application_twice

pub returns-clause-domain_twice : goal.returns-clause-domain_twice
returns-clause-domain_twice c = broken.domain_twice

pub returns-clause-appended : goal.returns-clause-appended
returns-clause-appended c = broken.appended_is_lawful

pub returns-clause-rows_removed : goal.returns-clause-rows_removed
returns-clause-rows_removed c = broken.rows_removed

pub returns-clause-domain_early : goal.returns-clause-domain_early
returns-clause-domain_early c = broken.domain_early

pub returns-clause-untimed : goal.returns-clause-untimed
returns-clause-untimed c = broken.untimed

pub returns-clause-vector_added : goal.returns-clause-vector_added
returns-clause-vector_added c = broken.vector_added
