-- What the pages say.
use Rattle.help_pages.specs.Pages.{Text}
use Rattle.help_pages.specs.declared.page.Page.{Page}
use Rattle.help_pages.specs.declared.page.Page.TheVariants as page
use Rattle.help_pages.specs.declared.texts.overview.TheConstants.{OVERVIEW}
use Rattle.help_pages.specs.declared.texts.commands.TheConstants.{CHECK, JUDGE, DEMO, ASM, DIS}
use Rattle.help_pages.specs.declared.texts.schedules.TheConstants.{REPLAY, ROLL}
use Rattle.help_pages.specs.declared.texts.driven.TheConstants.{DRIVE}
use Rattle.help_pages.specs.declared.texts.saves.TheConstants.{SAVE, RESUME}
use Rattle.help_pages.specs.declared.texts.runs.TheConstants.{RUN, MONITOR}
use Rattle.help_pages.specs.declared.texts.topics.TheConstants.{EVENTS, FORMATS, STATUSES}
use Rattle.help_pages.specs.declared.texts.overview.TheConstants.{VERSION}

abbrev pub text_on : Page → Text
text_on page.Overview = OVERVIEW.now
text_on page.Replay = REPLAY.now
text_on page.Drive = DRIVE.now
text_on page.Roll = ROLL.now
text_on page.Save = SAVE.now
text_on page.Resume = RESUME.now
text_on page.Run = RUN.now
text_on page.Monitor = MONITOR.now
text_on page.Check = CHECK.now
text_on page.Judge = JUDGE.now
text_on page.Demo = DEMO.now
text_on page.Asm = ASM.now
text_on page.Dis = DIS.now
text_on page.Events = EVENTS.now
text_on page.Formats = FORMATS.now
text_on page.Statuses = STATUSES.now
text_on page.Version = VERSION.now
