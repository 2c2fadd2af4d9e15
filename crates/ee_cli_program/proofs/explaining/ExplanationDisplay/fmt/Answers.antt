use Rattle.ee_cli_program.proofs.explaining.ExplanationDisplay.fmt.Goals as goal

pub returns-in-Header-clause-writes : goal.returns-in-Header-clause-writes
returns-in-Header-clause-writes g c = λ plain ok. rw c.in-Header.is (c.write_header.ensures.writes plain ok)

pub returns-in-FieldCount-clause-writes : goal.returns-in-FieldCount-clause-writes
returns-in-FieldCount-clause-writes g c = λ plain ok. rw c.in-FieldCount.is (c.write_field_count.ensures.writes plain ok)

pub returns-in-Field-clause-writes : goal.returns-in-Field-clause-writes
returns-in-Field-clause-writes g c = λ plain ok. rw c.in-Field.is (c.write_field.ensures.writes plain ok)

pub returns-in-Unread-clause-writes : goal.returns-in-Unread-clause-writes
returns-in-Unread-clause-writes g c = λ plain ok. rw c.in-Unread.is (c.write_unread.ensures.writes plain ok)

pub returns-in-TooLong-clause-writes : goal.returns-in-TooLong-clause-writes
returns-in-TooLong-clause-writes g c = λ plain ok. rw c.in-TooLong.is (c.write_too_long.ensures.writes plain ok)

pub returns-in-NoFile-clause-writes : goal.returns-in-NoFile-clause-writes
returns-in-NoFile-clause-writes g c = λ plain ok. rw c.in-NoFile.is (c.write_no_file.ensures.writes plain ok)

pub returns-in-NoPort-clause-writes : goal.returns-in-NoPort-clause-writes
returns-in-NoPort-clause-writes g c = λ plain ok. rw c.in-NoPort.is (c.write_no_port.ensures.writes plain ok)

pub returns-in-WrongVersion-clause-writes : goal.returns-in-WrongVersion-clause-writes
returns-in-WrongVersion-clause-writes g c = λ plain ok. rw c.in-WrongVersion.is (c.write_wrong_version.ensures.writes plain ok)

pub returns-in-Unusable-clause-writes : goal.returns-in-Unusable-clause-writes
returns-in-Unusable-clause-writes g c = λ plain ok. rw c.in-Unusable.is (c.write_unusable.ensures.writes plain ok)

pub returns-in-NotWrittenBack-clause-writes : goal.returns-in-NotWrittenBack-clause-writes
returns-in-NotWrittenBack-clause-writes g c = λ plain ok. rw c.in-NotWrittenBack.is (c.write_not_written_back.ensures.writes plain ok)

pub returns-in-Argument-clause-writes : goal.returns-in-Argument-clause-writes
returns-in-Argument-clause-writes g c = λ plain ok. rw c.in-Argument.is (c.write_argument.ensures.writes plain ok)

pub returns-in-Refused-clause-writes : goal.returns-in-Refused-clause-writes
returns-in-Refused-clause-writes g c = λ plain ok. rw c.in-Refused.is (c.write_refused.ensures.writes plain ok)

pub returns-in-Unpaid-clause-writes : goal.returns-in-Unpaid-clause-writes
returns-in-Unpaid-clause-writes g c = λ plain ok. rw c.in-Unpaid.is (c.write_unpaid.ensures.writes plain ok)

pub returns-in-Folder-clause-writes : goal.returns-in-Folder-clause-writes
returns-in-Folder-clause-writes g c = λ plain ok. rw c.in-Folder.is (c.write_folder.ensures.writes plain ok)
