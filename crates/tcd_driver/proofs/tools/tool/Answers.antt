use Rattle.std.proofs.Common.{refl, sym}
use Rattle.tcd_driver.specs.Commands.{plain_command}
use Rattle.tcd_driver.proofs.Words.{if_some_by, if_none_by}
use Rattle.tcd_reading.proofs.Endings.{ends}
use Rattle.tcd_driver.proofs.ToolWords.{tool_says, bad_end}
use Rattle.tcd_driver.proofs.CommandLaws.{command_decided}
use Rattle.tcd_driver.proofs.tools.tool.Goals as goal

pub returns-in-Some-clause-bad_words : goal.returns-in-Some-clause-bad_words
returns-in-Some-clause-bad_words g c = λ e. absurd ((ends _ _ _ _ _ _ _ _ (command_decided (plain_command c.in-Some.command)) c.outcome-outcome.ensures c.finish_outcome.ensures).no_bad_words e)

pub returns-in-Some-clause-command : goal.returns-in-Some-clause-command
returns-in-Some-clause-command g c = if_some_by _ _ _ (sym c.in-Some.ensures.is) (ends _ _ _ _ _ _ _ _ (command_decided (plain_command c.in-Some.command)) c.outcome-outcome.ensures c.finish_outcome.ensures)

pub returns-in-Some-clause-says : goal.returns-in-Some-clause-says
returns-in-Some-clause-says g c =
    tool_says _
    (if_some_by _ _ _ (sym c.in-Some.ensures.is) (ends _ _ _ _ _ _ _ _ (command_decided (plain_command c.in-Some.command)) c.outcome-outcome.ensures c.finish_outcome.ensures))
    (if_none_by _ _ _ (sym c.in-Some.ensures.is) tt)

pub returns-in-None-clause-says : goal.returns-in-None-clause-says
returns-in-None-clause-says g c =
    tool_says _ (if_some_by _ _ _ (sym c.in-None.ensures.is) tt) (if_none_by _ _ _ (sym c.in-None.ensures.is) (bad_end _ _ _ _ _ _ refl c.bad_words_line.ensures (c.print_with_status.ensures).prints (c.print_with_status.ensures).later))
