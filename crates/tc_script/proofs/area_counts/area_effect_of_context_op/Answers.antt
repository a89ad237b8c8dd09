use Rattle.tc_script.proofs.AreaLaws.{told_call, told_svlcx, told_bisr, told_syscall, told_ret, told_rfe, told_rslcx}
use Rattle.tc_script.proofs.area_counts.area_effect_of_context_op.Goals as goal

pub returns-in-Call : goal.returns-in-Call
returns-in-Call c = told_call _ c.args.used c.args.m.now c.args.event.now c.args.shape c.in-Call.is c.area_effect_of_save.ensures

pub returns-in-Svlcx : goal.returns-in-Svlcx
returns-in-Svlcx c = told_svlcx _ c.args.used c.args.m.now c.args.event.now c.args.shape c.in-Svlcx.is c.area_effect_of_save-in-Svlcx.ensures

pub returns-in-Bisr : goal.returns-in-Bisr
returns-in-Bisr c = told_bisr _ c.args.used c.args.m.now c.args.event.now c.args.shape c.in-Bisr.is c.area_effect_of_save-in-Bisr.ensures

pub returns-in-Syscall : goal.returns-in-Syscall
returns-in-Syscall c = told_syscall _ c.args.used c.args.m.now c.args.event.now c.args.shape c.in-Syscall.is c.area_effect_of_save-in-Syscall.ensures

pub returns-in-Ret : goal.returns-in-Ret
returns-in-Ret c = told_ret _ c.args.used c.args.m.now c.args.event.now c.args.shape c.in-Ret.is c.area_effect_of_restore.ensures

pub returns-in-Rfe : goal.returns-in-Rfe
returns-in-Rfe c = told_rfe _ c.args.used c.args.m.now c.args.event.now c.args.shape c.in-Rfe.is c.area_effect_of_restore-in-Rfe.ensures

pub returns-in-Rslcx : goal.returns-in-Rslcx
returns-in-Rslcx c = told_rslcx _ c.args.used c.args.m.now c.args.event.now c.args.shape c.in-Rslcx.is c.area_effect_of_restore-in-Rslcx.ensures
