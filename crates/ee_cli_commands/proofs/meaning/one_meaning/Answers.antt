use Rattle.ee_cli_commands.proofs.Determined.{asks_for_help_alone, asks_for_one, asks_for_version_alone, asks_unrefused, never_asks_for_both}
use Rattle.ee_cli_commands.proofs.meaning.one_meaning.Goals as goal

pub returns-clause-one : goal.returns-clause-one
returns-clause-one c = asks_for_one

pub returns-clause-unrefused : goal.returns-clause-unrefused
returns-clause-unrefused c = asks_unrefused

pub returns-clause-help_alone : goal.returns-clause-help_alone
returns-clause-help_alone c = asks_for_help_alone

pub returns-clause-version_alone : goal.returns-clause-version_alone
returns-clause-version_alone c = asks_for_version_alone

pub returns-clause-never_both : goal.returns-clause-never_both
returns-clause-never_both c = never_asks_for_both
