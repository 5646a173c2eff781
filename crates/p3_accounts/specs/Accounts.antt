-- What is printed of a plan: its verdict, what shows it, and what its metric is made of.
use Rattle.std.specs.Prelude.{ℕ, List, [], ◌++◌, flat_map, Option, Some, None}
use Rattle.p3_reports.specs.Explained.{verdict_text}
use Rattle.p3_tree.specs.Reports.Lines.{line}
use Rattle.p3_accounts.specs.Shares.{shares_text}
use Rattle.p3_accounts.specs.Spots.{spot_before}
use Rattle.p3_accounts.specs.States.{shown_text}
use Rattle.p3_accounts.specs.Subjects.{said_text, subject_text}
use Rattle.p3_accounts.specs.Vocabularies.{Vocabulary}
use Rattle.p3_accounts.specs.declared.account.Account.{Account}
use Rattle.p3_accounts.specs.declared.heading.Heading.{Heading}
use Rattle.p3_accounts.specs.declared.share.Shares.{Shares}

abbrev pub heading_line : Vocabulary → Heading → List ℕ
heading_line V heading = spot_before V heading.spot ++ subject_text V heading.subject ++ line (said_text V heading.subject)

-- a heading, and the states that show it
abbrev pub heading_text : Vocabulary → Heading → List ℕ
heading_text V heading = heading_line V heading ++ shown_text V heading.shown

abbrev pub shares_by : Vocabulary → Option Shares → List ℕ
shares_by V None = []
shares_by V (Some shares) = shares_text V.numbers shares

abbrev pub account_text : Vocabulary → Account → List ℕ
account_text V account = verdict_text account.verdict ++ flat_map (heading_text V) account.headings ++ shares_by V account.shares
